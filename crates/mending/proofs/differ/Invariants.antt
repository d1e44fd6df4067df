use Rattle.std.proofs.Common.{◌≡◌, not, take}
use Rattle.std.specs.Str.{bytes_eq}
use Rattle.mending.proofs.differ.Given as goal

abbrev pub invariant-loop-at : goal.invariant-loop-at
invariant-loop-at l = l.differ ≡ not (bytes_eq (take l.at l.kept) (take l.at l.drawn))
