use Rattle.ascii.specs.Ascii.{ascii}
use Rattle.ascii.proofs.Laws.{with_both}
use Rattle.sentences.specs.Sentences.{held_in}
use Rattle.sentences.specs.Sentences.{text_bytes}
use Rattle.sentences.proofs.cell.put_held_in.Goals as goal

pub returns : goal.returns
unfolding held_in ascii
returns c = rw (c.put.ensures, c.put_kind.ensures, c.put_around.ensures) (simp (with_both text_bytes c.args.text.now))
