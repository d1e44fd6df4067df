-- Document 01, "The chain of lines": the rows.
use Rattle.std.specs.Prelude.{ℕ, zero, suc, ◌+◌, ◌*◌, ◌/◌, ◌%◌, ◌==◌, List, Bool, Option, Some, None, if◌then◌else◌, slice_index, nat_lt}
use Rattle.chain.specs.declared.Head.{Head}
pub use Rattle.chain.specs.Places.{places}

-- what a chain is read from: the column setting, 80 or 132, and the two memories
pub record Chain : Type 0 where
  pub columns : ℕ
  pub screen : List ℕ
  pub attribute : List ℕ

abbrev pub chain : ℕ → List ℕ → List ℕ → Chain
chain columns screen attribute = record { columns = columns; screen = screen; attribute = attribute }

unfoldable pub byte_at : List ℕ → ℕ → ℕ
byte_at memory place = slice_index memory (place % places)

-- "Bits 1,0 read: 00 bottom half of double height, 01 top half, 10 double width, 11 normal."
abbrev pub bottom_half : ℕ
bottom_half = 0

abbrev pub top_half : ℕ
top_half = 1

abbrev pub double_width : ℕ
double_width = 2

abbrev pub normal : ℕ
normal = 3

abbrev pub bits10 : ℕ → ℕ
bits10 kind = kind % 4

-- "The first three are the wide kinds."
abbrev pub wide : ℕ → Bool
wide kind = nat_lt (bits10 kind) normal

-- "The capacity of a line is the column setting, 80 or 132, and half of it for the three wide kinds."
unfoldable pub capacity : ℕ → ℕ → ℕ
capacity columns kind = if wide kind then columns / 2 else columns

-- "Row 0 starts at place 0 (003) and is of kind 3"
abbrev pub first : Head
first = record { start = 0; kind = 3 }

-- "A row's cells run from its start to the first FF. FF is never a cell."
-- the first FF among `bytes` bytes, the first of which is `cells` after the start
unfoldable pub first_ff : List ℕ → (start cells bytes : ℕ) → Option ℕ
first_ff screen start cells zero = None
first_ff screen start cells (suc bytes) =
    let later = first_ff screen start (cells + 1) bytes in
    if byte_at screen (start + cells) == 0xFF then Some cells else later

-- "If none of the first capacity + 1 bytes is FF the row is torn"
unfoldable pub terminator : Chain → Head → Option ℕ
terminator c head = first_ff c.screen head.start 0 (capacity c.columns head.kind + 1)

-- "The two bytes after FF are the next row's start, low byte first; the high byte's top four bits play no part."
-- "The attribute byte beside the low link byte gives the kind of the row pointed to, its low three bits"
unfoldable pub link : (screen attribute : List ℕ) → (place : ℕ) → Head
link screen attribute place =
    record {
      start = (byte_at screen (place + 1) + 256 * byte_at screen (place + 2)) % places;
      kind = byte_at attribute (place + 1) % 8;
    }

-- a row with its cells before FF, one that is torn, one that is dark
pub data Row : Type 0 where
  Whole : (head : Head) (cells : ℕ) → Row
  Torn : (head : Head) → Row
  Dark : Row

abbrev pub ended : Head → Option ℕ → Row
ended head (Some cells) = Whole head cells
ended head None = Torn head

unfoldable pub row_from : Chain → Head → Row
row_from c head = ended head (terminator c head)

-- the row after a row: the one that its link points to; after a torn row "all later rows are dark"
unfoldable pub next : Chain → Row → Row
next c (Whole head cells) = row_from c (link c.screen c.attribute (head.start + cells))
next c (Torn head) = Dark
next c Dark = Dark

-- 02, ticket 5: "The chain is now walked for 25 rows". 01: "A chain that loops shows rows again."
abbrev pub rows : ℕ
rows = 25

-- 02, ticket 5: "rows 0 to 23 show in full", where nothing scrolls: the rows at rest
abbrev pub rows_at_rest : ℕ
rows_at_rest = 24

unfoldable pub row_at : Chain → ℕ → Row
row_at c zero = row_from c first
row_at c (suc row) = next c (row_at c row)
