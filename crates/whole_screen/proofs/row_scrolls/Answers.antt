use Rattle.whole_screen.proofs.Seeking.{kind_read}
use Rattle.whole_screen.proofs.row_scrolls.Goals as goal

pub returns : goal.returns
returns c = kind_read _ _
