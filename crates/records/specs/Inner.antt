-- No sentence of document 01: what our own functions promise each other. Here those that draw one row.
use Rattle.std.specs.Prelude.{ℕ, zero, suc, ◌-◌, ◌%◌, List, [], ◌∷◌, ◌++◌, false, Option, None, slice_index, drop}
use Rattle.chain.specs.Chain.{Chain, Row}
use Rattle.chain.specs.Reading.{reads}
use Rattle.chain.specs.Wild.{wild}
use Rattle.chain.specs.Inner.{row_ahead, ahead_after}
use Rattle.chain.specs.declared.Head.{Head}
use Rattle.records.specs.Record.{head_bytes, record_pairs, cell_pairs, count, cells_shown, fill_pairs, head_of, header}
use Rattle.records.specs.declared.RowRead.{RowRead}

-- the bytes of a record's pairs
abbrev pub pairs_of : List ℕ → List ℕ
pairs_of bytes = drop head_bytes bytes

-- the pairs of the first of some characters, and of the attributes beside them
unfoldable pub pairs_in : (characters attributes : List ℕ) → (cells : ℕ) → List ℕ
pairs_in characters attributes zero = []
pairs_in characters attributes (suc cell) =
    pairs_in characters attributes cell ++ (slice_index characters cell ∷ slice_index attributes cell % 16 ∷ [])

-- what the reading of a row comes to: its head, its cells and its count; what it has read, whether its link is wild (02,
-- ticket 1: "The reading of one row should now also say" so), and what it leads to
abbrev pub read_of : Chain → Row → RowRead
read_of c row =
    record {
      head = head_of row;
      cells = cells_shown c row;
      count = count row;
      reads = reads c row;
      wild = wild c row;
      next = ahead_after c row;
    }

-- of the row that lies ahead
abbrev pub row_read : Chain → Option Head → RowRead
row_read c ahead = read_of c (row_ahead c ahead)

-- of a row that has no link: it is not wild, and leads to a dark one
abbrev pub no_link : (head : Head) → (cells count reads : ℕ) → RowRead
no_link head cells count reads =
    record { head = head; cells = cells; count = count; reads = reads; wild = false; next = None }

-- the record of a row that was read
abbrev pub record_read : (screen attribute : List ℕ) → RowRead → List ℕ
record_read screen attribute row =
    header row.head row.count
    ++ (cell_pairs screen attribute row.head.start row.cells ++ fill_pairs (record_pairs - row.cells))
