use Rattle.std.proofs.Common.{arith, length-drop}
use Rattle.records.specs.Record.{head_bytes}
use Rattle.records.proofs.Filled.{filled_after, none_after}
use Rattle.records.proofs.fill_after.Goals as goal

pub returns-then-cells-lt-RECORD_PAIRS-clause-filled : goal.returns-then-cells-lt-RECORD_PAIRS-clause-filled
returns-then-cells-lt-RECORD_PAIRS-clause-filled c = filled_after c.args.cells (omega arith) c.fill.ensures.filled

pub returns-else-cells-lt-RECORD_PAIRS-clause-filled : goal.returns-else-cells-lt-RECORD_PAIRS-clause-filled
returns-else-cells-lt-RECORD_PAIRS-clause-filled c =
    none_after _ c.args.cells (omega (arith, length-drop head_bytes c.args.into.now, c.if-cells-lt-RECORD_PAIRS.array_long)) c.if-cells-lt-RECORD_PAIRS.false
