use Rattle.std.proofs.Common.{◌∙◌, arith, rules}
use Rattle.records.proofs.Rows.{drawn_as_read}
use Rattle.picture.proofs.Records.{record_lent}
use Rattle.picture.proofs.Walk.{walk_begins, count_fits, sum_fits, walk_goes_on, walk_ends}
use Rattle.picture.proofs.draw_rows.Goals as goal

pub loop-row-init : goal.loop-row-init
loop-row-init c = rw c.first.ensures (walk_begins _ _ (search rules))

pub overflow_add-reads : goal.overflow_add-reads
overflow_add-reads c =
    omega (arith, sum_fits c.loop-row.invariant c.loop-row-test.true c.read_ahead-read.ensures.value c.args.page.now.few)

pub overflow_cast-result : goal.overflow_cast-result
overflow_cast-result c = omega (arith, count_fits c.loop-row.invariant c.args.page.now.few)

pub loop-row-preserved : goal.loop-row-preserved
loop-row-preserved c =
    let walk = c.loop-row.invariant in
    let more = c.loop-row-test.true in
    let read = c.read_ahead-read.ensures.value in
    rw c.name-wild.ensures
    (walk_goes_on walk more read (drawn_as_read _ c.loop-row.ahead read c.draw_part.ensures)
    (c.draw_part.auto.part ∙ record_lent _ _ walk.same more))

pub returns-clause-wild : goal.returns-clause-wild
returns-clause-wild c = (walk_ends c.loop-row.invariant (omega arith)).1.0
