use native.Mathlib.Numerals.{add-one}
use native.Mathlib.Omega.{arith}
use Rattle.mending.proofs.Laws.{one_more}
use Rattle.mending.proofs.differ.Goals as goal

pub loop-at-preserved : goal.loop-at-preserved
loop-at-preserved c =
    rw (add-one c.loop-at.at, one_more c.args.kept.now c.args.drawn.now c.loop-at.at (omega arith) (omega (arith, c.requires)), ← c.loop-at.invariant)
