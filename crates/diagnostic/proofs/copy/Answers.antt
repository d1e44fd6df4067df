use mathlib.Core.Path.{refl, sym, ◌∙◌}
use native.Mathlib.Numerals.{add-one}
use native.Mathlib.Omega.{arith}
use lib.ListN.{length-set}
use lib.Seq.{take_all, take-suc, take-suc-set}
use Rattle.diagnostic.proofs.copy.Goals as goal

pub loop-at-preserved : goal.loop-at-preserved
loop-at-preserved g c =
    let same = c.loop-at.invariant.0 in (
      simp length-set same,
      rw (add-one c.loop-at.at, take-suc-set c.loop-at.to c.loop-at.at _ (omega (arith, same)), take-suc c.args.from.now c.loop-at.at 0 (omega (arith, same)), c.loop-at.invariant.1)
          refl,
    )

pub returns : goal.returns
returns g c =
    let same = c.loop-at.invariant.0 in
    sym (take_all c.loop-at.at c.loop-at.to (omega (arith, same)))
    ∙ c.loop-at.invariant.1
    ∙ take_all c.loop-at.at c.args.from.now (omega (arith, same))
