use Rattle.std.proofs.Common.{◌≡◌, ◌*◌, take}
use Rattle.records.specs.Inner.{pairs_in}
use Rattle.records.proofs.cells.put_cells.Given as goal

abbrev pub invariant-loop-cell : goal.invariant-loop-cell
invariant-loop-cell l = take (2 * l.cell) l.pairs ≡ pairs_in l.characters l.beside l.cell
