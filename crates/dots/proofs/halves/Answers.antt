use mathlib.Core.Path.{refl}
use Rattle.dots.specs.Inner.{half_word}
use Rattle.dots.proofs.Laws.{each_same}
use Rattle.dots.proofs.halves.Goals as goal

pub returns-then-wide : goal.returns-then-wide
unfolding half_word
returns-then-wide c = rw c.if-wide.true (each_same _ _ 16 refl)

pub returns-else-wide : goal.returns-else-wide
unfolding half_word
returns-else-wide c = rw c.if-wide.false (each_same _ _ 16 refl)
