use Rattle.scan_line.specs.Line.{pair_dots}
use Rattle.scan_line.proofs.Cells.{Rowing}
use Rattle.scan_line.proofs.Row.draw_cells.Given as goal

abbrev pub invariant-loop-cell : goal.invariant-loop-cell
invariant-loop-cell g l = Rowing (pair_dots l.self.machine l.table l.bytes l.self.scan) l.width l.line l.cell
