use mathlib.Core.Path.{refl}
use Rattle.marks.specs.Marks.{marks_to}
use Rattle.viewers.proofs.Viewers.start.Goals as goal

pub returns : goal.returns
unfolding marks_to
returns c = refl
