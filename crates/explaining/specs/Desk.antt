-- Document 02, ticket 6: "where no earlier row reads the named cell place, storing there a byte that differs and is not
-- FF changes that cell."
use Rattle.std.specs.Prelude.{ℕ, ◌+◌, ◌%◌, ◌≤◌, ◌<◌, ◌≡◌, List, [], ◌∷◌, Bool, false, cond, ◌&&◌, length, eqb, ltb, Option, Some}
use Rattle.lent.specs.Lengths.{screen_bytes}
use Rattle.memories.specs.declared.view8088.Seen.TheVariants.{Screen}
use Rattle.chain.specs.Chain.{Chain, Row as ARow, Whole, Torn, Dark as DarkRow, places, byte_at, rows, row_at}
use Rattle.chain.specs.Reading.{from}
use Rattle.records.specs.Record.{record_pairs, head_of, cells_shown}
use Rattle.picture.specs.Picture.{record_at}
use Rattle.readers.specs.Readers.{among, row_reads}
use Rattle.readers.specs.Stored.{chain_stored}
use Rattle.explaining.specs.Explain.{why}
use Rattle.explaining.specs.Shown.{pair_in}
use Rattle.explaining.specs.declared.Why.TheVariants.{Cell}

-- a byte is stored at the place of a cell: it differs from the one that stands there, and is not FF
pub record Told (c : Chain) (row column place byte : ℕ) : Type 0 where
  pub fits : c.columns ≤ record_pairs
  pub long : length c.screen ≡ screen_bytes
  pub one_of_them : row < rows
  pub kind : ℕ
  pub led : Option ℕ
  pub is_cell : why c row column ≡ Cell place kind led
  pub not_ff : byte ≡ 0xFF → ⊥
  pub differs : byte ≡ byte_at c.screen place → ⊥

-- then the cell shows that byte, with the attribute that it had, where it showed another; and the record of every
-- earlier row stays, so no cell of one changes
pub record Keeps (c d : Chain) (row column place byte : ℕ) : Type 0 where
  pub becomes : pair_in (record_at d row) column ≡ byte ∷ byte_at c.attribute place % 16 ∷ []
  pub changes : pair_in (record_at d row) column ≡ pair_in (record_at c row) column → ⊥
  pub earlier_stay : (earlier : ℕ) → earlier < row → record_at d earlier ≡ record_at c earlier

abbrev pub DeskPromise : Type 0
DeskPromise =
    (c : Chain) (row column place byte : ℕ) (shared : List ℕ) → Told c row column place byte
    → ((earlier : ℕ) → earlier < row → row_reads c (Some (Screen place)) (row_at c earlier) ≡ false)
    → Keeps c (chain_stored c (Some (Screen place)) byte shared) row column place byte

-- the two places of a row's link
unfoldable pub link_read : ARow → List ℕ
link_read (Whole head cells) = from (head.start + cells + 1) 2
link_read (Torn head) = []
link_read DarkRow = []

-- whether a cell of a row stands at a place
abbrev pub holds_cell : Chain → ARow → (cell place : ℕ) → Bool
holds_cell c row cell place =
    ltb cell (cells_shown c row) && eqb (((head_of row).start + cell) % places) place

-- What happens to the other rows that read the place, later ones too. Such a row starts where it did, is of the kind
-- that it was and has as many cells; each of its cells that the place holds shows the byte, and every other pair stays.
-- So it is with every row up to and with the first that reads the place as a byte of its link. That link then leads
-- elsewhere, unless only the top four bits of its high byte changed, and the rows after it are those of the walk after
-- the store
pub record ShowsItToo (c d : Chain) (other place byte : ℕ) : Type 0 where
  pub same_row : row_at d other ≡ row_at c other
  pub cells :
      (cell : ℕ) → cell < record_pairs
      → pair_in (record_at d other) cell
      ≡ cond (holds_cell c (row_at c other) cell place) (byte ∷ byte_at c.attribute place % 16 ∷ [])
      (pair_in (record_at c other) cell)

abbrev pub OtherRows : Type 0
OtherRows =
    (c : Chain) (row column place byte other : ℕ) (shared : List ℕ) → Told c row column place byte
    → ((ahead : ℕ) → ahead < other → among place (link_read (row_at c ahead)) ≡ false)
    → ShowsItToo c (chain_stored c (Some (Screen place)) byte shared) other place byte
