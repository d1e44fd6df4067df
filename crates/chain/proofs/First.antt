-- Laws about the first row that passes a test: it passes, and none ahead of it does.
use Rattle.std.proofs.Common.{◌≡◌, ◌≤◌, ◌<◌, ◌+◌, ℕ, zero, suc, Bool, true, false, refl, arith}
use Rattle.std.proofs.lemmas.Bool.Decides.{nat_tests}
use Rattle.chain.specs.First.{first_that}

module _ (test : ℕ → Bool) where
  pub none_passes : ((row : ℕ) → test row ≡ false) → (row more : ℕ) → first_that test row more ≡ row + more
  unfolding first_that
  none_passes none row zero = omega arith
  none_passes none row (suc more) = grind (arith, nat_tests, none row, none_passes none (row + 1) more)

  abbrev pub First : (row last f : ℕ) → Type 0
  First row last f =
      (row ≤ f)
      × ((f ≤ last) × ((f < last → test f ≡ true) × ((r : ℕ) → row ≤ r → r < f → test r ≡ false)))

  pub first_that_lem : (row more : ℕ) → First row (row + more) (first_that test row more)
  unfolding first_that
  first_that_lem row zero = (omega arith, (omega arith, (λ h. absurd (omega arith), λ r h g. absurd (omega arith))))
  first_that_lem row (suc more) = grind (arith, nat_tests, first_that_lem (row + 1) more)

-- tests that agree on these rows find the same one
pub same_first :
    (test other : ℕ → Bool) (row more : ℕ) → ((r : ℕ) → row ≤ r → r < row + more → test r ≡ other r)
    → first_that test row more ≡ first_that other row more
unfolding first_that
same_first test other row zero same = refl
same_first test other row (suc more) same =
    grind (arith, same row, same_first test other (row + 1) more (λ r h g. same r (omega arith) (omega arith)))
