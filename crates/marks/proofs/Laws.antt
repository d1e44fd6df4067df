-- Laws about marks: the number of so many rows is under that power of two, and 0 where none is marked; the marks of two
-- tests together, and of tests that agree.
use Prim.Native.Nat.{ℕ, zero, suc, ◌+◌, ◌*◌, ◌^◌, ◌<◌}
use mathlib.Core.Path.{◌≡◌, refl}
use mathlib.Core.Bool.{Bool, true, false, cond, ◌||◌}
use native.Mathlib.Nat.{add_comm, two-pow-succ, zero-mul}
use native.Mathlib.Numerals.{add-one}
use native.Mathlib.Omega.{arith}
use Rattle.std.proofs.lemmas.Bool.Decides.{nat_tests}
use lib.Bits.{bit_or, or_block}
use Rattle.marks.specs.Marks.{marked, marks_to, joined}

marked_under : (marks row : ℕ) (test : Bool) → marks < 2 ^ row → marked marks row test < 2 ^ (row + 1)
marked_under marks row test h = rw (add-one, two-pow-succ) (grind (arith, nat_tests))

pub marks_under : (test : ℕ → Bool) (rows : ℕ) → marks_to test rows < 2 ^ rows
unfolding marks_to
marks_under test zero = omega arith
marks_under test (suc row) = rw add-one at (marked_under (marks_to test row) row (test row) (marks_under test row))

pub none_marked : (test : ℕ → Bool) (rows : ℕ) → ((row : ℕ) → row < rows → test row ≡ false) → marks_to test rows ≡ 0
unfolding marks_to
none_marked test zero none = refl
none_marked test (suc row) none = rw (none row (omega arith), none_marked test row (λ r h. none r (omega arith)), zero-mul)

-- the marks of rows of which the one test or the other holds
pub joined_marks :
    (one other : ℕ → Bool) (rows : ℕ) → joined (marks_to one rows) (marks_to other rows) ≡ marks_to (λ row. one row || other row) rows
unfolding marks_to
joined_marks one other zero = refl
joined_marks one other (suc row) =
    let a = marks_to one row in
    let b = marks_to other row in
    let c : ℕ = cond (one row) 1 0 in
    let d : ℕ = cond (other row) 1 0 in
    rw (add_comm a (c * 2 ^ row), add_comm b (d * 2 ^ row), or_block row c d a b (marks_under one row) (marks_under other row), joined_marks one other row, bits (one row) (other row))
    (add_comm _ _)
  where
    bits : (p q : Bool) → bit_or (cond p 1 0) (cond q 1 0) ≡ cond {A = ℕ} (p || q) 1 0
    bits true true = refl
    bits true false = refl
    bits false true = refl
    bits false false = refl

-- tests that agree on these rows
pub same_marks :
    (one other : ℕ → Bool) (rows : ℕ) → ((row : ℕ) → row < rows → one row ≡ other row) → marks_to one rows ≡ marks_to other rows
unfolding marks_to
same_marks one other zero alike = refl
same_marks one other (suc row) alike =
    rw (alike row (omega arith), same_marks one other row (λ r h. alike r (omega arith)))
