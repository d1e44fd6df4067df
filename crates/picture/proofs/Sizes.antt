-- The sizes of the records and of the picture: the statements of specs/Sizes.antt.
use Prim.Native.Nat.{ℕ, zero, suc, ◌+◌, ◌*◌, ◌≤◌}
use mathlib.Core.Path.{◌≡◌, refl}
use mathlib.Core.List.{List}
use native.Mathlib.Omega.{arith}
use Rattle.std.proofs.lemmas.Grind.{common_steps}
use lib.ListN.{length, length-append}
use Rattle.chain.specs.Chain.{Chain, Row, rows, row_at}
use Rattle.chain.specs.Reading.{reads}
use Rattle.chain.proofs.Laws.{capacity_within}
use Rattle.chain.proofs.Reading.{reads_at}
use Rattle.records.specs.Record.{cell_pairs, cells_shown, record_of}
use Rattle.records.proofs.Filled.{fill_length}
use Rattle.picture.specs.Picture.{record_at}
use Rattle.picture.specs.Sizes.{RecordsSized, PictureSized}
use Rattle.picture.proofs.Records.{records_length}

pub cells_length : (screen attribute : List ℕ) (start cells : ℕ) → length (cell_pairs screen attribute start cells) ≡ 2 * cells
unfolding cell_pairs
cells_length screen attribute start zero = refl
cells_length screen attribute start (suc cell) = grind (arith, common_steps, cells_length screen attribute start cell)

pub shown_fit : (c : Chain) (row : Row) → reads c row ≤ c.columns + 3 → cells_shown c row ≤ c.columns
unfolding reads
shown_fit c row h = grind (arith, capacity_within)

pub records_sized : RecordsSized
unfolding record_of
records_sized c row wide =
    let shown = cells_shown c (row_at c row) in
    let fits = shown_fit c (row_at c row) (reads_at c row) in
    simp (length-append, cells_length, fill_length) (omega arith)

pub picture_sized : PictureSized
picture_sized c wide = records_length (record_at c) rows (λ row h. records_sized c row wide)
