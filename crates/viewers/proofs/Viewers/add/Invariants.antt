use Prim.Native.Nat.{ℕ}
use mathlib.Core.Path.{◌≡◌}
use Rattle.lent.proofs.Maps.{partly}
use Rattle.marks.specs.Marks.{joined}
use Rattle.viewers.proofs.Viewers.add.Given as goal

abbrev pub invariant-loop-viewer : goal.invariant-loop-viewer
invariant-loop-viewer l = l.waiting ≡ partly (λ (waits : ℕ). joined waits l.marks) l.initial.waiting l.viewer
