use Rattle.ascii.specs.Ascii.{ascii}
use Rattle.ascii.proofs.Laws.{with_both}
use Rattle.sentences.specs.Sentences.{dark_sentence}
use Rattle.sentences.proofs.cell.put_dark.Goals as goal

pub returns : goal.returns
unfolding dark_sentence ascii
returns c = rw (c.put_around.ensures, c.put_row_and_column.ensures, with_both, c.from.ensures)
