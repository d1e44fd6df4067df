use Rattle.chain.specs.Page.{chain_on}
use Rattle.index.proofs.Walk.{Passing}
use Rattle.index.proofs.pass_rows.Given as goal

abbrev pub invariant-loop-row : goal.invariant-loop-row
invariant-loop-row l = Passing (chain_on l.page) l.first l.initial.index l.index l.ahead l.row
