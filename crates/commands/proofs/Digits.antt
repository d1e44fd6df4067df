-- Laws about digits: what std says of one, and how the reading of a number goes on.
use Prim.Native.Nat.{ℕ, ◌+◌, ◌*◌, ◌≤◌, ◌<◌}
use mathlib.Core.Path.{◌≡◌, refl, sym, ◌∙◌}
use mathlib.Core.List.{List, ◌∷◌}
use Rattle.std.proofs.Common.{add-one}
use lib.ListN.{length, get_or, drop, drop_of_length-le}
use lib.Seq.{drop-cons}
use native.Mathlib.Omega.{arith}
use lib.Dec.{leb}
use mathlib.Core.Bool.{Bool, true, false}
use borrow.Author.Tests.{lt-ltb, le-ltb, leb-true}
use Rattle.std.specs.Char.{digit_value}
use Rattle.std.specs.Prelude.{Some, None}
use Rattle.std.proofs.lemmas.Bool.Decides.{nat_tests}
use Rattle.commands.specs.Meanings.{digit, too_large, number_from, number}

-- of the digits to a base of at most 16 std says the same
pub digit_is : (byte : ℕ) → digit_value byte < 16 → digit byte ≡ digit_value byte
unfolding digit
digit_is byte under = grind (arith, nat_tests)

pub none_is : (byte : ℕ) → 16 ≤ digit_value byte → digit byte ≡ 16
unfolding digit
none_is byte over = grind (arith, nat_tests)

-- the reading of a word's digits, whose value so far is known
pub record Reading (base : ℕ) (form word : List ℕ) (value at : ℕ) : Type 0 where
  pub left : number base form word ≡ number_from base value (drop at word)

pub no_digit_of : {base : ℕ} (byte : ℕ) → base ≤ 16 → (digit_value byte < base → ⊥) → base ≤ digit byte
no_digit_of {base} byte room none = go (leb 16 (digit_value byte)) refl
  where
    go : (b : Bool) → leb 16 (digit_value byte) ≡ b → base ≤ digit byte
    go true e = let h = leb-true _ _ e in rw (none_is byte h) room
    go false e = let h : digit_value byte < 16 = grind (arith, nat_tests) in rw (digit_is byte h) (omega arith)

module _ {base value at : ℕ} {form word : List ℕ} (w : Reading base form word value at) (room : base ≤ 16)
    (under : at < length word) {byte : ℕ} (read : byte ≡ get_or word at 0) where
  at_byte : number base form word ≡ number_from base value (byte ∷ drop (at + 1) word)
  at_byte = w.left ∙ rw (read, add-one, drop-cons word at 0 under) refl

  pub no_digit : (digit_value byte < base → ⊥) → None ≡ number base form word
  unfolding number_from
  no_digit none = sym (at_byte ∙ rw (le-ltb _ _ (no_digit_of byte room none)) refl)

  module _ {d : ℕ} (known : (digit_value byte < base) × (d ≡ digit_value byte)) where
    digit_known : digit byte ≡ d
    digit_known = digit_is byte (omega arith) ∙ sym known.1

    pub over_32_bits : too_large ≤ value * base + d → None ≡ number base form word
    unfolding number_from
    over_32_bits large = sym (at_byte ∙ rw (digit_known, lt-ltb d base (omega arith), le-ltb _ _ large) refl)

    pub digit_on : {more : ℕ} → (more < too_large) × (more ≡ value * base + d) → Reading base form word more (at + 1)
    unfolding number_from
    digit_on {more} small =
        let fits : value * base + d < too_large = rw small.1 at small.0 in
        record { left = at_byte ∙ rw (digit_known, lt-ltb d base (omega arith), lt-ltb _ _ fits, small.1) refl }

pub digits_end :
    {base value at : ℕ} {form word : List ℕ} → Reading base form word value at → length word ≤ at
    → Some value ≡ number base form word
unfolding number_from
digits_end {word = word} w past = sym (w.left ∙ rw (drop_of_length-le word past) refl)
