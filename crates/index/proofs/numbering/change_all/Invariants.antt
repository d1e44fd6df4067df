use Rattle.lent.proofs.Maps.{Mapping}
use Rattle.index.proofs.numbering.change_all.Given as goal

abbrev pub invariant-loop-at : goal.invariant-loop-at
invariant-loop-at g l = Mapping (g.C.Change.changed l.change) l.initial.entries l.entries l.at
