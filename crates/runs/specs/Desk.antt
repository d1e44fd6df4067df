-- Document 02, ticket 6, of the calls: a desk that keeps a picture asks why a cell says what it says, and stores there.
-- "where no earlier row reads the named cell place, storing there a byte that differs and is not FF changes that cell"
use Rattle.std.specs.Prelude.{ℕ, ◌+◌, ◌<◌, ◌≡◌, false, get_or, Option, Some, Ok}
use Rattle.lent.specs.Refusals.{accepted}
use Rattle.memories.specs.declared.view8088.Seen.TheVariants.{Screen as InScreen}
use Rattle.chain.specs.Chain.{row_at}
use Rattle.picture.specs.Picture.{record_in}
use Rattle.picture.specs.Draw.{chain_of}
use Rattle.readers.specs.Readers.{row_reads}
use Rattle.explaining.specs.Call.{explain}
use Rattle.explaining.specs.Shown.{pair_in}
use Rattle.explaining.specs.declared.Why.TheVariants.{Cell}
use Rattle.runs.specs.World.{Screen, Attribute, Picture, World, StoreWithPicture, after, answer}
use Rattle.runs.specs.Kept.{PictureKept}

-- "screen at EE000 to EEFFF"
abbrev pub store_at : (place byte : ℕ) → World → World
store_at place byte = after (StoreWithPicture (0xEE000 + place) byte)

-- the picture is kept, the call names a cell and its place, no earlier row reads that place, and the store there is
-- accepted
pub record Asked (w : World) (row column place byte : ℕ) : Type 0 where
  pub kept : PictureKept w
  pub kind : ℕ
  pub led : Option ℕ
  pub named : explain w.machine (w.bytes Screen) (w.bytes Attribute) row column ≡ Ok (Cell place kind led)
  pub unread :
      (earlier : ℕ) → earlier < row
      → let c = chain_of w.machine (w.bytes Screen) (w.bytes Attribute) in
      row_reads c (Some (InScreen place)) (row_at c earlier) ≡ false
  pub not_ff : byte ≡ 0xFF → ⊥
  pub differs : byte ≡ get_or (w.bytes Screen) place 0 → ⊥
  pub accepts : (answer (StoreWithPicture (0xEE000 + place) byte) w).refusal ≡ accepted

-- the character of a cell in the kept picture
abbrev pub character_at : World → (row column : ℕ) → ℕ
character_at w row column = get_or (pair_in (record_in (w.bytes Picture) row) column) 0 0

-- the cell showed what stands at the place, and shows the byte; no record of an earlier row changed
pub record Seen (w : World) (row column place byte : ℕ) : Type 0 where
  pub showed : character_at w row column ≡ get_or (w.bytes Screen) place 0
  pub shows : character_at (store_at place byte w) row column ≡ byte
  pub earlier_stay :
      (earlier : ℕ) → earlier < row
      → record_in ((store_at place byte w).bytes Picture) earlier ≡ record_in (w.bytes Picture) earlier

abbrev pub DeskSeesIt : Type 0
DeskSeesIt =
    (w : World) (row column place byte : ℕ) → Asked w row column place byte → Seen w row column place byte
