use native.Mathlib.Nat.{div-one}
use Rattle.ascii.specs.Ascii.{ascii}
use Rattle.ascii.proofs.Laws.{with_both}
use Rattle.sentences.specs.Words.{attribute_words}
use Rattle.sentences.specs.Sentences.{text_bytes}
use Rattle.sentences.proofs.words.put_attribute.Goals as goal

pub returns : goal.returns
unfolding attribute_words ascii
returns c =
    rw (div-one c.args.attribute, c.put_if-4.ensures, c.put_if-3.ensures, c.put_if-2.ensures, c.put_if.ensures)
    (simp (with_both text_bytes c.args.text.now))
