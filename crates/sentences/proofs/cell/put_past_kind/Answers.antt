use Rattle.ascii.specs.Ascii.{ascii}
use Rattle.ascii.proofs.Laws.{with_both}
use Rattle.sentences.specs.Sentences.{past_sentence}
use Rattle.sentences.specs.Sentences.{text_bytes}
use Rattle.sentences.proofs.cell.put_past_kind.Goals as goal

pub returns : goal.returns
unfolding past_sentence ascii
returns c =
    rw (c.put_around-2.ensures, c.put_kind.ensures, c.put.ensures, c.put_decimal.ensures, c.put_around.ensures)
    (simp (with_both text_bytes c.args.text.now))
