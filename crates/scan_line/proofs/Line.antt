-- A line has the dots and the bytes that are said of it.
use Prim.Native.Nat.{ℕ, ◌-◌}
use mathlib.Core.Path.{◌≡◌, refl, ◌∙◌}
use mathlib.Core.List.{List}
use mathlib.Core.Bool.{Bool, true, false}
use native.Mathlib.Omega.{arith}
use lib.ListN.{length, length-append, length-replicate}
use Rattle.lent.specs.Lengths.{line_bytes}
use Rattle.machine.specs.Settings.{columns}
use Rattle.machine.specs.declared.Machine.{Machine}
use Rattle.chain.specs.Chain.{capacity}
use Rattle.picture.proofs.Records.{pieces_length}
use Rattle.dots.specs.Cell.{cell_width}
use Rattle.dots.proofs.Cell.{cell_sized}
use Rattle.scan_line.specs.Line.{kind_in, count_in, pair_dots, row_dots, dots_of_line, shows_nothing, line_of, LineSized}
use Rattle.scan_line.proofs.Laws.{cells_fill_the_line, dots_fit}

row_sized : (m : Machine) (table bytes : List ℕ) (scan : ℕ) → length (row_dots m table bytes scan) ≡ dots_of_line m
unfolding pair_dots row_dots
row_sized m table bytes scan =
    let kind = kind_in bytes in
    pieces_length (pair_dots m table bytes scan) (cell_width m.columns132 kind) (capacity (columns m) kind)
    (λ pair h. cell_sized m kind _ _ _)
    ∙ cells_fill_the_line m kind

pub line_sized : LineSized
unfolding line_of
line_sized m table bytes scan = (row_sized m table bytes scan, go (shows_nothing m (count_in bytes)) refl)
  where
    go : (b : Bool) → shows_nothing m (count_in bytes) ≡ b → length (line_of m table bytes scan) ≡ line_bytes
    go true e = rw e (length-replicate {A = ℕ} line_bytes 0)
    go false e =
        rw (e, length-append, row_sized m table bytes scan, length-replicate {A = ℕ} (line_bytes - dots_of_line m) 0)
        (omega (arith, dots_fit m.columns132))
