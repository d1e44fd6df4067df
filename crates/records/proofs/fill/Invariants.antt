use Rattle.records.proofs.Filled.{Filling}
use Rattle.records.proofs.fill.Given as goal

abbrev pub invariant-loop-pair : goal.invariant-loop-pair
invariant-loop-pair l = Filling l.fn.into l.into l.pair
