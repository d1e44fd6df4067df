-- A cell has as many dots as is said of it.
use mathlib.Core.Path.{◌≡◌, refl}
use mathlib.Core.Bool.{Bool, true, false}
use lib.ListN.{length}
use Rattle.chain.specs.Chain.{wide}
use Rattle.dots.specs.Shading.{IsTheCell}
use Rattle.dots.specs.Cell.{glyph_dots, twice, cell_dots, cell_width, CellSized}

pub cell_sized : CellSized
unfolding glyph_dots twice cell_dots cell_width
cell_sized m kind attribute glyph_scan glyph = go m.columns132 (wide kind) refl refl
  where
    go :
        (a b : Bool) → m.columns132 ≡ a → wide kind ≡ b
        → length (cell_dots m kind attribute glyph_scan glyph) ≡ cell_width m.columns132 kind
    go true true at132 is_is_wide = rw (at132, is_is_wide) refl
    go true false at132 is_is_wide = rw (at132, is_is_wide) refl
    go false true at132 is_is_wide = rw (at132, is_is_wide) refl
    go false false at132 is_is_wide = rw (at132, is_is_wide) refl

pub is_the_cell : IsTheCell
unfolding cell_dots
is_the_cell m kind attribute glyph_scan glyph = refl
