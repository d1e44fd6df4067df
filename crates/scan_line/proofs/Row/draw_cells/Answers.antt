use Prim.Native.Nat.{◌*◌}
use mathlib.Core.Path.{◌∙◌}
use native.Mathlib.Omega.{arith}
use borrow.Author.Rules.{rules}
use Rattle.lent.proofs.Parts.{part_lent}
use Rattle.scan_line.proofs.Laws.{cells_fit}
use Rattle.scan_line.proofs.Cells.{cell_room, row_goes_on, row_begins, row_shown, pair_shown}
use Rattle.scan_line.proofs.Row.draw_cells.Goals as goal

pub loop-cell-init : goal.loop-cell-init
loop-cell-init g c = row_begins _ _ _ (search rules)

pub loop-cell-preserved : goal.loop-cell-preserved
loop-cell-preserved g c =
    let fits = cells_fit _ _ c.cells_of-cells.ensures c.cell_width-width.ensures in
    let more = c.loop-cell-test.true in
    row_goes_on _ _ fits more {new = c.draw_cell.new.into} c.loop-cell.invariant
    (c.draw_cell.ensures ∙ pair_shown _ _ _ _ _ c.new-shades.ensures c.kind.ensures c.of_glyph-scan.ensures c.byte-glyph.ensures c.requires.kind)
    (c.draw_cell.auto.into ∙ part_lent c.loop-cell.line (c.loop-cell.cell * c.cell_width-width.result) c.cell_width-width.result
    (omega (arith, cell_room _ _ fits more, c.loop-cell.invariant.same)))

pub returns : goal.returns
returns g c =
    row_shown _ _ _ _ _ _ _ _ _ _ c.requires.columns c.requires.kind c.cell_width-width.ensures c.cells_of-cells.ensures
    (omega (arith, c.loop-cell-test.false, c.loop-cell.auto.cell-end)) c.loop-cell.invariant
