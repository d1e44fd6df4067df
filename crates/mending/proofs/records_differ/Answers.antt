use native.Mathlib.Omega.{arith}
use Rattle.mending.proofs.Laws.{in_parts}
use Rattle.mending.proofs.records_differ.Goals as goal

pub returns : goal.returns
returns c =
    in_parts c.args.kept.now c.args.drawn.now (omega arith) (omega arith) c.differ-last.ensures c.differ-first.ensures
    c.differ-head.ensures
