use mathlib.Core.Path.{ap, ◌∙◌}
use native.Mathlib.Omega.{arith}
use native.Mathlib.Nat.{add_comm}
use lib.Pow.{shl_exact}
use lib.Bits.{bit_or, or_shifted_r}
use Rattle.marks.proofs.mark.Goals as goal

pub returns-then-changed : goal.returns-then-changed
returns-then-changed c = let marks = c.args.marks in
    let row = c.args.row in
    let bit = shl_exact {a = 1} 1 row 32 (omega arith) (omega arith) in
    rw c.if-changed.true (ap (bit_or marks) bit ∙ or_shifted_r 1 row marks c.requires.0 ∙ add_comm _ _)
