-- Document 02, ticket 6: "Each is given exactly when true under the chain's rules". What each answer says of the rows,
-- in the words of the rules alone; and, of the records, what the fresh picture shows where it is given.
use Rattle.std.specs.Prelude.{ℕ, ◌+◌, ◌*◌, ◌%◌, ◌≤◌, ◌<◌, ◌≡◌, List, [], ◌∷◌, true, get_or, take, drop, Option, Some, None}
use Rattle.chain.specs.Chain.{Chain, Row as ARow, Whole, Torn, Dark as DarkRow, places, byte_at, capacity, rows, row_at}
use Rattle.chain.specs.declared.Head.{Head}
use Rattle.records.specs.Record.{record_pairs, kind_at, head_bytes, cells_shown}
use Rattle.picture.specs.Picture.{record_at}
use Rattle.explaining.specs.Explain.{is_torn, why}
use Rattle.explaining.specs.declared.Why.{Why}
use Rattle.explaining.specs.declared.Why.TheVariants.{Cell, Fill, Past, Dark}

-- a row that is not dark has a head: where it starts, and its kind
abbrev pub HasHead : ARow → Head → Type 0
HasHead (Whole own cells) head = own ≡ head
HasHead (Torn own) head = own ≡ head
HasHead DarkRow head = ⊥

-- "the place of the low link byte that led to the row": the row before it is whole, and the byte after its FF is there
pub record IsLink (c : Chain) (row place : ℕ) : Type 0 where
  pub before : ℕ
  pub is_before : row ≡ before + 1
  pub head : Head
  pub cells : ℕ
  pub whole : row_at c before ≡ Whole head cells
  pub at : place ≡ (head.start + cells + 1) % places

-- "or that it is row 0"
abbrev pub LedSo : Chain → (row : ℕ) → Option ℕ → Type 0
LedSo c row None = row ≡ 0
LedSo c row (Some place) = IsLink c row place

-- the column is one of the cells that the row shows, this place holds it, and this is the row's kind
pub record IsCell (c : Chain) (row column place kind : ℕ) (led : Option ℕ) : Type 0 where
  pub head : Head
  pub has : HasHead (row_at c row) head
  pub among : column < cells_shown c (row_at c row)
  pub at : place ≡ (head.start + column) % places
  pub of_kind : kind ≡ head.kind
  pub led_so : LedSo c row led

-- the row ended at or ahead of the column, at the FF at this place, and has room for the column
pub record IsFill (c : Chain) (row column place : ℕ) (led : Option ℕ) : Type 0 where
  pub head : Head
  pub cells : ℕ
  pub whole : row_at c row ≡ Whole head cells
  pub ended : cells ≤ column
  pub room : column < capacity c.columns head.kind
  pub at : place ≡ (head.start + cells) % places
  pub led_so : LedSo c row led

-- the row is not dark, and has no room for the column
pub record IsPast (c : Chain) (row column : ℕ) (led : Option ℕ) : Type 0 where
  pub head : Head
  pub has : HasHead (row_at c row) head
  pub no_room : capacity c.columns head.kind ≤ column
  pub led_so : LedSo c row led

-- the row is dark, and this row ahead of it tore
pub record IsDark (c : Chain) (row tore : ℕ) : Type 0 where
  pub dark : row_at c row ≡ DarkRow
  pub ahead : tore < row
  pub torn : is_torn (row_at c tore) ≡ true

-- what an answer says holds
abbrev pub Holds : Chain → (row column : ℕ) → Why → Type 0
Holds c row column (Cell place kind led) = IsCell c row column place kind led
Holds c row column (Fill place led) = IsFill c row column place led
Holds c row column (Past led) = IsPast c row column led
Holds c row column (Dark tore) = IsDark c row tore

-- the answer that is given holds, and no other does
abbrev pub ExactlyWhenTrue : Type 0
ExactlyWhenTrue =
    (c : Chain) (row column : ℕ) → row < rows
    → Holds c row column (why c row column)
    × ((answer : Why) → Holds c row column answer → answer ≡ why c row column)

-- the pair of character and attribute that a record has for a column
abbrev pub pair_in : (bytes : List ℕ) → (column : ℕ) → List ℕ
pair_in bytes column = take 2 (drop (head_bytes + 2 * column) bytes)

-- what the record of the row shows: of a cell, the byte at the named place and the attribute beside it, and the kind;
-- otherwise "20, 0E"
abbrev pub Shows : Chain → (row column : ℕ) → Why → Type 0
Shows c row column (Cell place kind led) =
    (pair_in (record_at c row) column ≡ byte_at c.screen place ∷ byte_at c.attribute place % 16 ∷ [])
    × (get_or (record_at c row) kind_at 0 ≡ kind)
Shows c row column (Fill place led) = pair_in (record_at c row) column ≡ 0x20 ∷ 0x0E ∷ []
Shows c row column (Past led) = pair_in (record_at c row) column ≡ 0x20 ∷ 0x0E ∷ []
Shows c row column (Dark tore) = pair_in (record_at c row) column ≡ 0x20 ∷ 0x0E ∷ []

abbrev pub ShowsWhatItSays : Type 0
ShowsWhatItSays =
    (c : Chain) (row column : ℕ) → c.columns ≤ record_pairs → column < record_pairs
    → Shows c row column (why c row column)

-- "the place of the FF that ended the row": FF stands there, and at no place of the row ahead of it
pub record IsFirstFf (c : Chain) (head : Head) (place : ℕ) : Type 0 where
  pub cells : ℕ
  pub at : place ≡ (head.start + cells) % places
  pub is_ff : byte_at c.screen place ≡ 0xFF
  pub none_ahead : (cell : ℕ) → cell < cells → byte_at c.screen (head.start + cell) ≡ 0xFF → ⊥

abbrev pub NamesTheFirstFf : Type 0
NamesTheFirstFf =
    (c : Chain) (row column place : ℕ) (led : Option ℕ) (head : Head) → row < rows → why c row column ≡ Fill place led
    → HasHead (row_at c row) head → IsFirstFf c head place

-- "the row that tore": no other row is torn
abbrev pub OneRowTore : Type 0
OneRowTore =
    (c : Chain) (row column tore : ℕ) → row < rows → why c row column ≡ Dark tore
    → (is_torn (row_at c tore) ≡ true) × ((other : ℕ) → is_torn (row_at c other) ≡ true → other ≡ tore)

-- what an answer says of the link; a dark row has none
abbrev pub led_in : Why → Option ℕ
led_in (Cell place kind led) = led
led_in (Fill place led) = led
led_in (Past led) = led
led_in (Dark tore) = None

-- the named place holds the low byte of the row's start, and beside it stands the row's kind, in "its low three bits"
abbrev pub LinkHolds : Type 0
LinkHolds =
    (c : Chain) (row column place : ℕ) (head : Head) → row < rows → led_in (why c row column) ≡ Some place
    → HasHead (row_at c row) head → byte_at c.screen place < 256
    → (byte_at c.screen place ≡ head.start % 256) × (byte_at c.attribute place % 8 ≡ head.kind)
