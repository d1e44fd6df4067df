use Rattle.chain.specs.Page.{chain_on}
use Rattle.picture.proofs.Walk.{Walking}
use Rattle.picture.proofs.draw_rows.Given as goal

abbrev pub invariant-loop-row : goal.invariant-loop-row
invariant-loop-row l = Walking (chain_on l.page) l.picture l.ahead l.reads l.wild l.row
