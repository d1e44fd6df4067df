-- Document 01, "The picture": row records, by 02, ticket 5, as many as the chain has rows.
use Rattle.std.specs.Prelude.{ℕ, zero, suc, ◌*◌, List, [], ◌++◌, take, drop}
use Rattle.chain.specs.Chain.{Chain, rows, row_at}
use Rattle.records.specs.Record.{record_bytes, record_of}

-- so many records, one after the other
unfoldable pub in_order : (record_of_row : ℕ → List ℕ) → (rows : ℕ) → List ℕ
in_order record_of_row zero = []
in_order record_of_row (suc row) = in_order record_of_row row ++ record_of_row row

-- the record of a row of the chain
abbrev pub record_at : Chain → (row : ℕ) → List ℕ
record_at c row = record_of c (row_at c row)

-- the records of all rows
abbrev pub picture_of : Chain → List ℕ
picture_of c = in_order (record_at c) rows

-- the record of a row in a picture, true or not
unfoldable pub record_in : (picture : List ℕ) → (row : ℕ) → List ℕ
record_in picture row = take record_bytes (drop (row * record_bytes) picture)
