use Prim.Native.Nat.{◌+◌}
use mathlib.Core.Path.{◌≡◌}
use native.Mathlib.Omega.{arith}
use Rattle.readers.proofs.Laws.{among_both, from_over}
use Rattle.readers.proofs.whole_reads.Goals as goal

pub returns-then-among : goal.returns-then-among
returns-then-among c = rw (c.in-Attribute.is, among_both, ← c.among-in-Attribute.ensures, c.if-among.true)

pub returns-else-among : goal.returns-else-among
returns-else-among c =
    let low : c.args.start + (c.args.cells + 1) ≡ c.args.start + c.args.cells + 1 = omega arith in
    rw (c.in-Attribute.is, among_both, ← c.among-in-Attribute.ensures, c.if-among.false, ← from_over, ← low, ← c.after.ensures)
    c.among-else-among.ensures
