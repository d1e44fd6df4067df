use Rattle.std.proofs.Common.{arith, rules}
use Rattle.records.proofs.Pairs.{straight_put}
use Rattle.records.proofs.cells.draw_cells.Goals as goal

pub returns : goal.returns
returns c =
    rw (← c.at-start.ensures.value)
    (straight_put c.args.page.now.screen.now c.args.page.now.attribute.now c.args.pairs.now c.at-start.result c.args.row.now.cells c.args.row.now.cells (search rules) (search rules) c.at-start.ensures.within c.requires.few (omega arith) c.put_cells.ensures)
