use Rattle.dots.specs.Inner.{turn_of, unlit_of}
use Rattle.dots.proofs.Laws.{Stored}
use Rattle.dots.proofs.Shades.new.Given as goal

abbrev pub invariant-loop-at : goal.invariant-loop-at
invariant-loop-at l = record {
  turned : Stored (turn_of l.machine l.scan) l.turns l.at;
  not_lit : Stored (unlit_of l.machine l.scan) l.unlit l.at;
}
