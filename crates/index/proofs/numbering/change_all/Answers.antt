use native.Mathlib.Omega.{arith}
use Rattle.lent.proofs.Maps.{mapping_begins, mapping_goes_on, mapping_ends}
use Rattle.index.proofs.numbering.change_all.Goals as goal

pub loop-at-init : goal.loop-at-init
loop-at-init g c = mapping_begins _ _

pub loop-at-preserved : goal.loop-at-preserved
loop-at-preserved g c = mapping_goes_on c.loop-at.invariant (omega arith) c.of.ensures

pub returns : goal.returns
returns g c = mapping_ends c.loop-at.invariant (omega arith)
