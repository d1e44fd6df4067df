-- The records of a walk are what its rows read: two chains that hold the same bytes wherever the first rows of the one
-- read give those rows the same records.
use Rattle.std.specs.Prelude.{ℕ, ◌<◌, ◌≡◌}
use Rattle.chain.specs.Chain.{Chain, row_at}
use Rattle.chain.specs.Alike.{ReadAlike}
use Rattle.picture.specs.Picture.{record_at}

abbrev pub RecordsAreWhatTheRowsRead : Type 0
RecordsAreWhatTheRowsRead =
    (c d : Chain) (rows : ℕ) → ((row : ℕ) → row < rows → ReadAlike c d (row_at c row))
    → (row : ℕ) → row < rows → record_at d row ≡ record_at c row
