use Rattle.ascii.specs.Ascii.{ascii}
use Rattle.ascii.proofs.Laws.{with_both}
use Rattle.sentences.specs.Words.{kind_words}
use Rattle.sentences.proofs.words.put_kind.Goals as goal

pub returns : goal.returns
unfolding kind_words ascii
returns c = rw (c.put_if.ensures, c.put.ensures, c.width.ensures, with_both)
