-- What a caller learns from `if !test(..) { return .. }`, where the answer of `test` is a definition's, and from two
-- numbers that are tested to be two others; and what holds of both outcomes of a test.
use Prim.Native.Nat.{ℕ}
use mathlib.Core.Path.{◌≡◌, refl, sym, ◌∙◌}
use mathlib.Core.Bool.{Bool, true, false, not, cond, ◌&&◌, and-eq-true_iff}
use native.Mathlib.Omega.{arith}
use Rattle.std.proofs.lemmas.Bool.Decides.{nat_tests}
use lib.Dec.{eqb}
use borrow.Author.Tests.{not-true, not-false, eqb-true}

pub held : {answer test : Bool} → answer ≡ test → not answer ≡ false → test ≡ true
held {answer} e h = sym e ∙ not-false answer h

pub failed : {answer test : Bool} → answer ≡ test → not answer ≡ true → test ≡ false
failed {answer} e h = sym e ∙ not-true answer h

-- what holds of both outcomes of a test holds of the one chosen
pub either :
    {O : Type 0} (P : O → Type 0) (test : Bool) (x y : O) → (test ≡ true → P x) → (test ≡ false → P y) → P (cond test x y)
either P true x y f g = f refl
either P false x y f g = g refl

pub both_equal : (a x b y : ℕ) → eqb a x && eqb b y ≡ true → (a ≡ x) × (b ≡ y)
both_equal a x b y e = grind (arith, nat_tests)

pub three_equal :
    (a x b y c z : ℕ) → eqb a x && (eqb b y && eqb c z) ≡ true → (a ≡ x) × ((b ≡ y) × (c ≡ z))
three_equal a x b y c z e = grind (arith, nat_tests)
