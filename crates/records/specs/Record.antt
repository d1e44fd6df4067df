-- Document 01, "The picture": the record of a row, and the picture.
use Rattle.std.specs.Prelude.{ℕ, zero, suc, ◌+◌, ◌-◌, ◌/◌, ◌%◌, ◌<◌, ◌≡◌, List, [], ◌∷◌, ◌++◌}
use Rattle.chain.specs.Chain.{Chain, Row, Whole, Torn, Dark, byte_at, capacity, row_from}
use Rattle.chain.specs.declared.Head.{Head}

-- "row records of 268 bytes: start (two bytes, high byte first, the house habit), kind 0 to 7, count, then 132 pairs
-- of character and attribute modulo 16."
abbrev pub record_bytes : ℕ
record_bytes = 268

abbrev pub record_pairs : ℕ
record_pairs = 132

-- where they stand: the high byte of the start at 0
abbrev pub start_low_at : ℕ
start_low_at = 1

abbrev pub kind_at : ℕ
kind_at = 2

abbrev pub count_at : ℕ
count_at = 3

-- the bytes ahead of the pairs
abbrev pub head_bytes : ℕ
head_bytes = 4

-- the pairs of so many cells
unfoldable pub cell_pairs : (screen attribute : List ℕ) → (start cells : ℕ) → List ℕ
cell_pairs screen attribute start zero = []
cell_pairs screen attribute start (suc cell) =
    cell_pairs screen attribute start cell
    ++ (byte_at screen (start + cell) ∷ byte_at attribute (start + cell) % 16 ∷ [])

-- "Count is the cells before FF, 255 if torn, 254 if dark."
abbrev pub torn_count : ℕ
torn_count = 255

abbrev pub dark_count : ℕ
dark_count = 254

abbrev pub count : Row → ℕ
count (Whole head cells) = cells
count (Torn head) = torn_count
count Dark = dark_count

-- a whole row's cells; a torn row "shows its capacity cells"; a dark one has none
abbrev pub cells_shown : Chain → Row → ℕ
cells_shown c (Whole head cells) = cells
cells_shown c (Torn head) = capacity c.columns head.kind
cells_shown c Dark = 0

-- "FF is never a cell", of a whole row and of a torn one: a statement, proved in proofs/Record.antt
abbrev pub FfIsNoCell : Type 0
FfIsNoCell =
    (c : Chain) (head : Head) (cell : ℕ) → cell < cells_shown c (row_from c head)
    → byte_at c.screen (head.start + cell) ≡ 0xFF → ⊥

-- "Pairs after the last cell are 20, 0E."
unfoldable pub fill_pairs : ℕ → List ℕ
fill_pairs zero = []
fill_pairs (suc pair) = fill_pairs pair ++ (0x20 ∷ 0x0E ∷ [])

-- "A dark row has start 0, kind 3 and only such pairs."
abbrev pub head_of : Row → Head
head_of (Whole head cells) = head
head_of (Torn head) = head
head_of Dark = record { start = 0; kind = 3 }

abbrev pub header : Head → ℕ → List ℕ
header head count = head.start / 256 ∷ head.start % 256 ∷ head.kind ∷ count ∷ []

unfoldable pub record_of : Chain → Row → List ℕ
record_of c row =
    let cells = cells_shown c row in
    header (head_of row) (count row)
    ++ (cell_pairs c.screen c.attribute (head_of row).start cells ++ fill_pairs (record_pairs - cells))
