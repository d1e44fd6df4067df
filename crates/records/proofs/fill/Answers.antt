use Rattle.std.proofs.Common.{arith, rules}
use Rattle.records.proofs.Filled.{none_filled, one_filled, all_filled}
use Rattle.records.proofs.fill.Goals as goal

pub loop-pair-init : goal.loop-pair-init
loop-pair-init c = none_filled _ (search rules)

pub loop-pair-preserved : goal.loop-pair-preserved
loop-pair-preserved c = one_filled c.loop-pair.invariant c.loop-pair-test.true

pub returns-clause-filled : goal.returns-clause-filled
returns-clause-filled c = all_filled c.loop-pair.invariant (omega arith)
