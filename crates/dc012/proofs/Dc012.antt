-- A load leaves the latch under 16.
use native.Mathlib.Omega.{arith}
use Rattle.std.proofs.lemmas.Bool.Decides.{nat_tests}
use Rattle.dc012.specs.Dc012.{LoadLeavesUnder16}

pub load_leaves_under_16 : LoadLeavesUnder16
load_leaves_under_16 m code h = grind (arith, nat_tests)
