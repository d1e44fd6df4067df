-- Bit by bit: the statements of specs/Marks.antt.
use Prim.Native.Nat.{ℕ, zero, suc, ◌+◌, ◌*◌, ◌/◌, ◌%◌, ◌^◌, ◌<◌}
use mathlib.Core.Path.{◌≡◌, refl}
use mathlib.Core.Bool.{Bool, true, false, cond, ◌||◌}
use native.Mathlib.Nat.{zero-div, pow-suc, pow-succ', mul_assoc, div-div-eq-div-mul, div-one, mul-add-mod_self_right}
use native.Mathlib.Omega.{arith}
use Rattle.std.proofs.lemmas.Bool.Decides.{nat_tests}
use lib.Dec.{eqb, leb-zero, leb-suc-zero, leb-suc-suc}
use lib.Bits.{bit_or, or_shr, or_mod}
use Rattle.marks.specs.Marks.{bit_set, marks_to, BitByBit, JoinedBitByBit}

-- the bit of row 0 is the lowest, and above it stand the marks of the rows after
low_first :
    (test : ℕ → Bool) (rows : ℕ)
    → marks_to test (suc rows) ≡ marks_to (λ row. test (suc row)) rows * 2 + cond (test 0) 1 0
unfolding marks_to
low_first test zero = omega arith
low_first test (suc rows) =
    rw (pow-suc 2 rows) (omega (arith, low_first test rows, mul_assoc (cond (test (suc rows)) 1 0) (2 ^ rows) 2))

module _ (above : ℕ) where
  half : (bit : Bool) → (above * 2 + cond bit 1 0) / 2 ≡ above
  half bit = grind (arith, nat_tests)

  odd : (bit : Bool) → eqb ((above * 2 + cond bit 1 0) % 2) 1 ≡ bit
  odd bit = grind (arith, nat_tests)

pub bit_by_bit : BitByBit
unfolding bit_set marks_to
bit_by_bit test zero row = rw (zero-div, leb-suc-zero)
bit_by_bit test (suc rows) zero = rw (low_first test rows, div-one, odd, leb-suc-suc, leb-zero)
bit_by_bit test (suc rows) (suc row) =
    rw (low_first test rows, pow-succ', ← div-div-eq-div-mul, half, leb-suc-suc) (bit_by_bit (λ r. test (suc r)) rows row)

-- the lowest bit of two numbers joined
lowest : (a b : ℕ) → eqb (bit_or a b % 2) 1 ≡ (eqb (a % 2) 1 || eqb (b % 2) 1)
lowest a b = rw (or_mod a b 1) (bits (a % 2) (b % 2) (omega arith) (omega arith))
  where
    bits : (p q : ℕ) → p < 2 → q < 2 → eqb (bit_or p q) 1 ≡ (eqb p 1 || eqb q 1)
    bits zero zero h k = refl
    bits zero (suc zero) h k = refl
    bits zero (suc (suc q)) h k = absurd (omega arith)
    bits (suc zero) zero h k = refl
    bits (suc zero) (suc zero) h k = refl
    bits (suc zero) (suc (suc q)) h k = absurd (omega arith)
    bits (suc (suc p)) q h k = absurd (omega arith)

pub joined_bit_by_bit : JoinedBitByBit
unfolding bit_set
joined_bit_by_bit one other row = rw (or_shr one other row) (lowest (one / 2 ^ row) (other / 2 ^ row))
