-- Document 01, "The picture" and "Lent memory", and document 02, ticket 5: the records and the picture have the sizes
-- that are said of them.
use Rattle.std.specs.Prelude.{ℕ, ◌≤◌, ◌≡◌, length}
use Rattle.lent.specs.Lengths.{picture_bytes}
use Rattle.chain.specs.Chain.{Chain, row_at}
use Rattle.records.specs.Record.{record_bytes, record_pairs, record_of}
use Rattle.picture.specs.Picture.{picture_of}

-- "row records of 268 bytes"
abbrev pub RecordsSized : Type 0
RecordsSized = (c : Chain) (row : ℕ) → c.columns ≤ record_pairs → length (record_of c (row_at c row)) ≡ record_bytes

-- 02, ticket 5: "the picture has 6,700 bytes"
abbrev pub PictureSized : Type 0
PictureSized = (c : Chain) → c.columns ≤ record_pairs → length (picture_of c) ≡ picture_bytes
