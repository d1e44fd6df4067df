use Rattle.std.proofs.Common.{◌≡◌, ◌-◌, ◌*◌, drop, take, arith, length-drop}
use Rattle.std.proofs.Math.Seq.{take_all}
use Rattle.records.specs.Record.{head_bytes, record_pairs, fill_pairs}
use Rattle.records.proofs.Filled.{lent_after}
use Rattle.records.proofs.draw_row.Goals as goal

pub returns : goal.returns
returns c =
    let into = c.fill_after.new.into in
    let filled : drop (2 * c.args.row.now.cells) (take 264 (drop head_bytes into)) ≡ fill_pairs (record_pairs - c.args.row.now.cells) =
    rw (take_all 264 (drop head_bytes into) (omega (arith, length-drop head_bytes into, c.fill_after.array_long))) c.fill_after.ensures.filled in
    rw (
      lent_after head_bytes 264 into c.draw_cells.new.pairs c.fill_after.array_long,
      c.fill_after.ensures.head_stays,
      c.write_head.ensures,
      c.draw_cells.ensures,
      filled,
    )
