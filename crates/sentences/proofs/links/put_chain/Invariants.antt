use Rattle.std.proofs.Common.{◌≡◌}
use Rattle.chain.specs.Page.{chain_on}
use Rattle.ascii.specs.Text.{with_words}
use Rattle.sentences.specs.Sentences.{text_bytes, clauses_to}
use Rattle.sentences.proofs.links.put_chain.Given as goal

abbrev pub invariant-loop-row : goal.invariant-loop-row
invariant-loop-row l =
    l.text ≡ with_words text_bytes l.initial.text (clauses_to (chain_on l.page) l.row)
