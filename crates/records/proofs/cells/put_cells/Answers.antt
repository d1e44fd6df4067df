use Rattle.std.proofs.Common.{◌*◌, length, refl, arith, length-take}
use Rattle.records.specs.Inner.{pairs_in}
use Rattle.records.proofs.Pairs.{one_put}
use Rattle.records.proofs.cells.put_cells.Goals as goal

pub loop-cell-init : goal.loop-cell-init
unfolding pairs_in
loop-cell-init c = refl

pub loop-cell-preserved : goal.loop-cell-preserved
loop-cell-preserved c =
    one_put _ _ _ _ c.loop-cell.invariant (omega (arith, length-take (2 * length c.args.characters.now) c.args.pairs.now))
