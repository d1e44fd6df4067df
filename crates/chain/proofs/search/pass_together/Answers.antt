use Rattle.std.proofs.Common.{sym, ◌∙◌, arith}
use Rattle.chain.proofs.Searching.{passed_more}
use Rattle.chain.proofs.search.pass_together.Goals as goal

pub loop-together-preserved : goal.loop-together-preserved
loop-together-preserved g c =
    let step = c.in-Some.ensures.steps in
    let none = sym c.has_terminator.ensures ∙ c.if-has_terminator.false in
    let more = passed_more c.in-Some.together.now c.loop-together.invariant.3 step.1.0 none in
    (omega arith, tt, step.0 ∙ c.loop-together.invariant.2, rw (step.1.1, c.loop-together.invariant.2) at more)
