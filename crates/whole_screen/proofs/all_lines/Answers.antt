use mathlib.Core.Path.{refl}
use Rattle.picture.specs.Picture.{in_order}
use Rattle.whole_screen.specs.Inner.{Listed}
use Rattle.whole_screen.proofs.all_lines.Goals as goal

pub returns : goal.returns
unfolding Listed in_order
returns c = refl
