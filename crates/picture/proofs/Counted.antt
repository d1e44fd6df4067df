-- The drawing call counts no more than the bounds: the statement of specs/Counted.antt.
use Prim.Native.Nat.{◌≤◌}
use mathlib.Core.Path.{refl}
use mathlib.Core.Bool.{Bool, true, false, cond}
use native.Mathlib.Omega.{arith}
use Rattle.lent.specs.Refusals.{refuses}
use Rattle.lent.proofs.Tests.{either}
use Rattle.chain.specs.Chain.{chain}
use Rattle.chain.specs.Reading.{walk_reads, reads_at_132, reads_at_80}
use Rattle.chain.proofs.Reading.{reads_at_most}
use Rattle.picture.specs.Draw.{DrawnPicture, refusal_drawing}
use Rattle.picture.specs.Counted.{CountAtMost}

pub count_at_most : CountAtMost
count_at_most m screen attribute picture =
    either (λ (left : DrawnPicture). left.answer.reads ≤ cond m.columns132 reads_at_132 reads_at_80)
    (refuses (refusal_drawing screen attribute picture)) _ _ (λ _. none m.columns132) (λ _. walked m.columns132)
  where
    none : (wide : Bool) → 0 ≤ cond wide reads_at_132 reads_at_80
    none true = omega arith
    none false = omega arith

    walked : (wide : Bool) → walk_reads (chain (cond wide 132 80) screen attribute) ≤ cond wide reads_at_132 reads_at_80
    walked true = (reads_at_most (chain 132 screen attribute)).0 refl
    walked false = (reads_at_most (chain 80 screen attribute)).1 refl
