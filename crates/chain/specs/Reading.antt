-- Document 01, "The chain of lines": what the rows read.
use Rattle.std.specs.Prelude.{ℕ, zero, suc, ◌+◌, ◌%◌, ◌≤◌, ◌≡◌, List, [], ◌∷◌, ◌++◌, length}
use Rattle.chain.specs.Chain.{Chain, Row, Whole, Torn, Dark, places, capacity, rows, row_at}

-- "A row with n cells reads n + 3 bytes of screen memory; a torn one capacity + 1; a dark one none."
unfoldable pub reads : Chain → Row → ℕ
reads c (Whole head cells) = cells + 3
reads c (Torn head) = capacity c.columns head.kind + 1
reads c Dark = 0

-- "the bytes of screen memory that the walk reads": the sum over the first rows, and over all
unfoldable pub reads_to : Chain → ℕ → ℕ
reads_to c zero = 0
reads_to c (suc row) = reads_to c row + reads c (row_at c row)

abbrev pub walk_reads : Chain → ℕ
walk_reads c = reads_to c rows

-- so many places from a place on
unfoldable pub from : (place bytes : ℕ) → List ℕ
from place zero = []
from place (suc bytes) = place % places ∷ from (place + 1) bytes

-- the places of screen memory that a row reads, from its start on
unfoldable pub screen_read : Chain → Row → List ℕ
screen_read c (Whole head cells) = from head.start (cells + 3)
screen_read c (Torn head) = from head.start (capacity c.columns head.kind + 1)
screen_read c Dark = []

-- "A row also reads the attribute byte beside each of its cells and, unless torn, the one beside its low link byte."
unfoldable pub attribute_read : Chain → Row → List ℕ
attribute_read c (Whole head cells) = from head.start cells ++ from (head.start + cells + 1) 1
attribute_read c (Torn head) = from head.start (capacity c.columns head.kind)
attribute_read c Dark = []

-- a row reads as many places as it counts
abbrev pub ReadsAsCounted : Type 0
ReadsAsCounted = (c : Chain) (row : Row) → length (screen_read c row) ≡ reads c row

-- "at most", at 132 columns and at 80; 02, ticket 5: "the read bounds are 3,375 and 2,075"
abbrev pub reads_at_132 : ℕ
reads_at_132 = 3375

abbrev pub reads_at_80 : ℕ
reads_at_80 = 2075

abbrev pub ReadsAtMost : Type 0
ReadsAtMost =
    (c : Chain) → (c.columns ≡ 132 → walk_reads c ≤ reads_at_132) × (c.columns ≡ 80 → walk_reads c ≤ reads_at_80)
