-- Of the order of refusals, where a call has one of its own beside the lengths.
use Prim.Native.Nat.{ℕ}
use mathlib.Core.Path.{◌≡◌, refl}
use mathlib.Core.Bool.{Bool, true, false, not, cond}
use native.Mathlib.Omega.{arith}
use Rattle.lent.specs.Refusals.{accepted, length_refused}

-- while the processor is stopped, its access is refused: by the number of the stop, or by 1
pub by_stop_or_1 :
    (lengths : Bool) (number : ℕ) → cond (not lengths) length_refused number ≡ cond lengths number length_refused
by_stop_or_1 true number = refl
by_stop_or_1 false number = refl

-- where it is accepted, the lengths are right and the test did not hold
pub passed :
    (lengths test : Bool) (number : ℕ) → (number ≡ accepted → ⊥)
    → cond (not lengths) length_refused (cond test number accepted) ≡ accepted → (lengths ≡ true) × (test ≡ false)
passed lengths test number is h = grind arith
