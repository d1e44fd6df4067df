use Rattle.std.proofs.Common.{◌∙◌}
use Rattle.chain.proofs.Searching.{both_passed}
use Rattle.chain.proofs.search.first_terminator.Goals as goal

pub returns-in_err-more : goal.returns-in_err-more
returns-in_err-more c =
    let many = c.pass_together-many in
    let few = c.pass_together in
    c.from_residual.ensures
    ∙ both_passed c.args.bytes.now many.result few.result many.ensures.within many.ensures.none few.ensures.within few.ensures.none c.in_err-more.ensures

pub returns : goal.returns
returns c =
    let many = c.pass_together-many in
    let few = c.pass_together in
    both_passed c.args.bytes.now many.result few.result many.ensures.within many.ensures.none few.ensures.within few.ensures.none c.in_ok-more.ensures
