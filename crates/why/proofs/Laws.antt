-- What number a word is, by how long it is.
use Rattle.std.proofs.Common.{ℕ, ◌≤◌, ◌≡◌, List, [], ◌∷◌, length, get_or, refl, arith}
use Rattle.std.specs.Prelude.{None}
use Rattle.why.specs.Arguments.{digit, and_digit, number}

pub of_one : (word : List ℕ) → length word ≡ 1 → number word ≡ digit (get_or word 0 0)
unfolding number
of_one (a ∷ []) long = refl
of_one [] long = absurd (omega (arith, long))
of_one (a ∷ b ∷ word) long = absurd (omega (arith, long))

pub of_two : (word : List ℕ) → length word ≡ 2 → number word ≡ and_digit (digit (get_or word 0 0)) (digit (get_or word 1 0))
unfolding number
of_two (a ∷ b ∷ []) long = refl
of_two [] long = absurd (omega (arith, long))
of_two (a ∷ []) long = absurd (omega (arith, long))
of_two (a ∷ b ∷ c ∷ word) long = absurd (omega (arith, long))

pub of_three :
    (word : List ℕ) → length word ≡ 3
    → number word ≡ and_digit (and_digit (digit (get_or word 0 0)) (digit (get_or word 1 0))) (digit (get_or word 2 0))
unfolding number
of_three (a ∷ b ∷ c ∷ []) long = refl
of_three [] long = absurd (omega (arith, long))
of_three (a ∷ []) long = absurd (omega (arith, long))
of_three (a ∷ b ∷ []) long = absurd (omega (arith, long))
of_three (a ∷ b ∷ c ∷ d ∷ word) long = absurd (omega (arith, long))

pub of_none : (word : List ℕ) → length word ≡ 0 → number word ≡ None
unfolding number
of_none [] long = refl
of_none (a ∷ word) long = absurd (omega (arith, long))

pub of_more : (word : List ℕ) → 4 ≤ length word → number word ≡ None
unfolding number
of_more (a ∷ b ∷ c ∷ d ∷ word) long = refl
of_more [] long = absurd (omega (arith, long))
of_more (a ∷ []) long = absurd (omega (arith, long))
of_more (a ∷ b ∷ []) long = absurd (omega (arith, long))
of_more (a ∷ b ∷ c ∷ []) long = absurd (omega (arith, long))
