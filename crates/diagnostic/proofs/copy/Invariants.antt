use Rattle.std.proofs.Common.{◌≡◌, length, take}
use Rattle.diagnostic.proofs.copy.Given as goal

abbrev pub invariant-loop-at : goal.invariant-loop-at
invariant-loop-at g l = (length l.to ≡ length l.from) × (take l.at l.to ≡ take l.at l.from)
