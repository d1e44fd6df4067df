use Prim.Native.Nat.{◌-◌}
use mathlib.Core.Path.{◌≡◌, refl}
use native.Mathlib.Omega.{arith}
use Rattle.chain.specs.Page.{chain_on}
use Rattle.records.proofs.Rows.{drawn_as_read}
use Rattle.marks.proofs.Laws.{marks_under}
use Rattle.mending.specs.Inner.{RowsNoted}
use Rattle.mending.proofs.Walk.{read_at_row, read_in_places, one_noted, mend_begins, mend_goes_on, mend_ends}
use Rattle.mending.proofs.mend.Goals as goal

pub loop-row-init : goal.loop-row-init
unfolding RowsNoted
loop-row-init g c =
    let none : c.args.first.row - c.args.first.row ≡ 0 = omega arith in
    record {
      picture_mended =
          mend_begins (chain_on c.args.page.now) _ _ c.args.page.now.few c.requires.room c.args.first.ahead c.requires.within
          c.requires.comes;
      rows_noted = rw none refl;
    }

pub note-requires : goal.note-requires
note-requires g c =
    let k = chain_on c.args.page.now in
    let read = c.read_ahead-read in (
      read_in_places k c.loop-row.row c.args.page.now.few
          (read_at_row k c.loop-row.row c.loop-row.invariant.picture_mended.comes read.ensures.value) read.ensures.fits,
      omega (arith, c.loop-row-test.true),
    )

pub mark-marks-requires : goal.mark-marks-requires
mark-marks-requires g c = (rw c.loop-row.invariant.picture_mended.told (marks_under _ _), omega arith)

pub loop-row-preserved : goal.loop-row-preserved
loop-row-preserved g c =
    let k = chain_on c.args.page.now in
    let inv = c.loop-row.invariant in
    let read = c.read_ahead-read.ensures.value in
    record {
      picture_mended =
          mend_goes_on k _ _ c.args.page.now.few c.requires.room inv.picture_mended
          (omega (arith, c.loop-row-test.true)) (drawn_as_read _ c.loop-row.ahead read c.draw_row.ensures)
          c.draw_row.array_long (rw read)
          (c.replace_part-changed.ensures.value, c.replace_part-changed.ensures.part_after) c.mark-marks.ensures;
      rows_noted =
          one_noted _ k c.args.first.row c.loop-row.row _ inv.rows_noted c.loop-row.auto.row
          (read_at_row k c.loop-row.row inv.picture_mended.comes read) c.note.ensures;
    }

pub returns-clause-marks : goal.returns-clause-marks
returns-clause-marks g c = (mend_ends c.loop-row.invariant.picture_mended (omega (arith, c.loop-row-test.false)) (omega arith)).0

pub returns-clause-picture_after : goal.returns-clause-picture_after
returns-clause-picture_after g c = (mend_ends c.loop-row.invariant.picture_mended (omega (arith, c.loop-row-test.false)) (omega arith)).1

pub returns-clause-rows_noted : goal.returns-clause-rows_noted
returns-clause-rows_noted g c =
    let k = chain_on c.args.page.now in
    let last : c.loop-row.row ≡ 25 = omega arith in
    let noted = c.loop-row.invariant.rows_noted in
    rw last at noted
