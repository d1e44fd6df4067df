-- Laws about the drawing call: what the lengths tell, and that a line fits a record.
use Prim.Native.Nat.{ℕ, ◌≤◌}
use mathlib.Core.Path.{◌≡◌}
use mathlib.Core.Bool.{true}
use native.Mathlib.Omega.{arith}
use Rattle.std.proofs.lemmas.Bool.Decides.{nat_tests}
use Rattle.lent.specs.Lengths.{screen_bytes, attribute_bytes, picture_bytes}
use Rattle.lent.proofs.Tests.{three_equal}
use Rattle.machine.specs.Settings.{columns}
use Rattle.machine.specs.declared.Machine.{Machine}
use Rattle.records.specs.Record.{record_pairs}
use Rattle.picture.specs.Draw.{lengths_picture}

-- the lengths are those of the list where the test holds
pub lent_picture :
    {screen attribute picture : ℕ} → lengths_picture screen attribute picture ≡ true
    → (screen ≡ screen_bytes) × ((attribute ≡ attribute_bytes) × (picture ≡ picture_bytes))
unfolding lengths_picture
lent_picture {screen} {attribute} {picture} =
    three_equal screen screen_bytes attribute attribute_bytes picture picture_bytes

-- a line of either setting fits the pairs of a record
pub columns_fit : (m : Machine) → columns m ≤ record_pairs
columns_fit m = grind (arith, nat_tests)
