use Rattle.ascii.proofs.Laws.{with_both}
use Rattle.sentences.proofs.Laws.{clause_more}
use Rattle.sentences.proofs.links.put_chain.Goals as goal

pub loop-row-preserved : goal.loop-row-preserved
loop-row-preserved c =
    rw (clause_more _ _ c.reach.ensures, c.put_link.ensures, c.loop-row.invariant, with_both)
