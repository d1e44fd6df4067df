-- Rows are what they read: two chains that hold the same bytes wherever a row of the one reads have that row in common,
-- and what it leads to. Of the high byte of its link the low four bits are enough.
use Rattle.std.specs.Prelude.{ℕ, ◌+◌, ◌%◌, ◌<◌, ◌≡◌, List, [], map}
use Rattle.chain.specs.Chain.{Chain, Row, Whole, Torn, Dark, byte_at, row_from, row_at}
use Rattle.chain.specs.Reading.{from, screen_read, attribute_read}
use Rattle.chain.specs.Inner.{ahead_after, ahead_of}
use Rattle.chain.specs.declared.Head.{Head}

-- the bytes of a memory at these places
abbrev pub bytes_at : List ℕ → List ℕ → List ℕ
bytes_at memory = map (byte_at memory)

-- the places of screen memory that a row reads ahead of the high byte of its link
unfoldable pub read_ahead_of_high : Chain → Row → List ℕ
read_ahead_of_high c (Whole head cells) = from head.start (cells + 2)
read_ahead_of_high c (Torn head) = screen_read c (Torn head)
read_ahead_of_high c Dark = []

-- the high byte of its link without the top four bits, which "play no part"; 0 for a row that has no link
unfoldable pub low_four : (screen : List ℕ) → Row → ℕ
low_four screen (Whole head cells) = byte_at screen (head.start + cells + 2) % 16
low_four screen (Torn head) = 0
low_four screen Dark = 0

-- the same column setting, and the same bytes at the places that a row reads, but for those top four bits
pub record ReadAlike (c d : Chain) (row : Row) : Type 0 where
  pub columns : c.columns ≡ d.columns
  pub screen : bytes_at c.screen (read_ahead_of_high c row) ≡ bytes_at d.screen (read_ahead_of_high c row)
  pub high : low_four c.screen row ≡ low_four d.screen row
  pub attribute : bytes_at c.attribute (attribute_read c row) ≡ bytes_at d.attribute (attribute_read c row)

abbrev pub RowIsWhatItReads : Type 0
RowIsWhatItReads =
    (c d : Chain) (head : Head) → let row = row_from c head in
    ReadAlike c d row → (row_from d head ≡ row) × (ahead_after d row ≡ ahead_after c row)

-- and so it is with the walk: with the same bytes wherever its first rows read, those rows are the same, and so is what
-- lies ahead after them
abbrev pub RowsAreWhatTheyRead : Type 0
RowsAreWhatTheyRead =
    (c d : Chain) (rows : ℕ) → ((row : ℕ) → row < rows → ReadAlike c d (row_at c row))
    → (ahead_of d rows ≡ ahead_of c rows) × ((row : ℕ) → row < rows → row_at d row ≡ row_at c row)
