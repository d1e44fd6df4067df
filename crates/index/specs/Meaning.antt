-- Document 02, ticket 8: what an entry means, and what a store does with any index.
use Rattle.std.specs.Prelude.{ℕ, ◌≤◌, ◌<◌, ◌≡◌, List, true, false, get_or}
use Rattle.lent.specs.Lengths.{index_bytes}
use Rattle.machine.specs.declared.Machine.{Machine}
use Rattle.memories.specs.View8088.{seen_8088}
use Rattle.chain.specs.Chain.{Chain, rows, row_at}
use Rattle.picture.specs.Picture.{record_in}
use Rattle.marks.specs.Marks.{bit_set}
use Rattle.readers.specs.Readers.{row_reads}
use Rattle.index.specs.Index.{no_row, seen_at, index_of}
use Rattle.index.specs.Store.{first_in, store_with_index}

-- an entry is "the number of the first row that reads it, or 255": it is a row that reads the place, and no row ahead
-- of it does; or it is 255, and no row reads the place
abbrev pub EntriesAreFirst : Type 0
EntriesAreFirst =
    (c : Chain) (at : ℕ) → at < index_bytes
    → let entry = get_or (index_of c) at no_row in
    (entry < rows
    → (row_reads c (seen_at at) (row_at c entry) ≡ true)
    × ((row : ℕ) → row < entry → row_reads c (seen_at at) (row_at c row) ≡ false))
    × (rows ≤ entry
    → (entry ≡ no_row) × ((row : ℕ) → row < rows → row_reads c (seen_at at) (row_at c row) ≡ false))

-- The owner's third demand of this store, for every picture and every index, and for refused stores too: it leaves
-- alone the rows ahead of the row that the index names
abbrev pub LeavesAheadOfNamed : Type 0
LeavesAheadOfNamed =
    (m : Machine) (shared screen attribute picture index : List ℕ) (address byte row : ℕ) → row < rows
    → row < first_in index (seen_8088 address)
    → record_in (store_with_index m shared screen attribute picture index address byte).picture row ≡ record_in picture row

-- and "reports exactly the rows whose record changed"; a bit that is no row's is never set
abbrev pub MarksTheChangedToo : Type 0
MarksTheChangedToo =
    (m : Machine) (shared screen attribute picture index : List ℕ) (address byte row : ℕ)
    → let left = store_with_index m shared screen attribute picture index address byte in
    let marked = bit_set left.answer.marks row in
    (row < rows → marked ≡ true → record_in left.picture row ≡ record_in picture row → ⊥)
    × ((row < rows → marked ≡ false → record_in left.picture row ≡ record_in picture row)
    × (rows ≤ row → marked ≡ false))
