use Prim.Native.Nat.{◌^◌, ◌<◌}
use native.Mathlib.Nat.{div-eq_of_lt}
use native.Mathlib.Omega.{arith}
use lib.Pow.{pow_mono}
use borrow.Author.Tests.{le-ltb}
use Rattle.marks.specs.Marks.{bit_set}
use Rattle.marks.proofs.is_marked.Goals as goal

pub returns-else-row-lt-BITS : goal.returns-else-row-lt-BITS
unfolding bit_set
returns-else-row-lt-BITS c =
    let under : c.args.marks < 2 ^ c.args.row = omega (arith, pow_mono {i = 32} {j = c.args.row} (omega arith)) in
    rw (div-eq_of_lt under) (le-ltb c.args.row 32 c.if-row-lt-BITS.false)
