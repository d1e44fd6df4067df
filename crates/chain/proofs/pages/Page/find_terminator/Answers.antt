use Rattle.std.proofs.Common.{◌+◌, ◌∙◌, refl, arith, rules}
use Rattle.chain.specs.Chain.{terminator}
use Rattle.chain.proofs.Searching.{found_in_two}
use Rattle.chain.proofs.pages.Page.find_terminator.Goals as goal

pub returns-in-Some-clause-found : goal.returns-in-Some-clause-found
unfolding terminator
returns-in-Some-clause-found c =
    rw (← c.at-at.ensures.value, ← c.capacity-bytes.ensures.value)
    (found_in_two c.args.self.now.screen.now c.at-at.result (c.capacity-bytes.result + 1) _ (search rules) c.at-at.ensures.within (omega arith) (omega arith) c.in-Some.ensures refl)

pub returns-in_err-more-clause-found : goal.returns-in_err-more-clause-found
unfolding terminator
returns-in_err-more-clause-found c =
    rw (← c.at-at.ensures.value, ← c.capacity-bytes.ensures.value)
    (c.from_residual.ensures
    ∙ found_in_two c.args.self.now.screen.now c.at-at.result (c.capacity-bytes.result + 1) _ (search rules) c.at-at.ensures.within (omega arith) (omega arith) c.in_default.ensures c.in_err-more.ensures)

pub returns-clause-found : goal.returns-clause-found
unfolding terminator
returns-clause-found c =
    rw (← c.at-at.ensures.value, ← c.capacity-bytes.ensures.value)
    (found_in_two c.args.self.now.screen.now c.at-at.result (c.capacity-bytes.result + 1) _ (search rules) c.at-at.ensures.within (omega arith) (omega arith) c.in_default.ensures c.in_ok-more.ensures)
