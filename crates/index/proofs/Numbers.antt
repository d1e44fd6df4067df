-- What an entry comes to when every row has written its number to all that it reads: the first row that reads its place.
use Prim.Native.Nat.{ℕ, zero, suc, ◌+◌, ◌≤◌, ◌<◌}
use mathlib.Core.Path.{◌≡◌, refl, ◌∙◌}
use mathlib.Core.Bool.{Bool, true, false, cond}
use native.Mathlib.Omega.{arith}
use lib.Dec.{ltb}
use borrow.Author.Tests.{lt-ltb, le-ltb, ne_eqb, ltb-true, ltb-false}
use Rattle.chain.specs.Chain.{Chain, rows, row_at}
use Rattle.chain.specs.First.{first_that}
use Rattle.readers.specs.Readers.{row_reads}
use Rattle.index.specs.Index.{no_row, seen_at}
use Rattle.index.specs.Inner.{forgotten, number_put, numbered_to}

-- the first of one row more that passes a test
one_more :
    (test : ℕ → Bool) (row more : ℕ)
    → first_that test row (suc more)
    ≡ cond (ltb (first_that test row more) (row + more)) (first_that test row more)
    (cond (test (row + more)) (row + more) (row + more + 1))
unfolding first_that
one_more test row zero =
    let here : row + 0 ≡ row = omega arith in
    rw (here, le-ltb row row (omega arith))
one_more test row (suc more) = go (test row) refl (one_more test (row + 1) more)
  where
    here : row + 1 + more ≡ row + suc more
    here = omega arith

    go :
        (b : Bool) → test row ≡ b
        → first_that test (row + 1) (suc more)
        ≡ cond (ltb (first_that test (row + 1) more) (row + 1 + more)) (first_that test (row + 1) more)
        (cond (test (row + 1 + more)) (row + 1 + more) (row + 1 + more + 1))
        → first_that test row (suc (suc more))
        ≡ cond (ltb (first_that test row (suc more)) (row + suc more)) (first_that test row (suc more))
        (cond (test (row + suc more)) (row + suc more) (row + suc more + 1))
    go true h later = rw (h, lt-ltb row (row + suc more) (omega arith))
    go false h later = rw (h, ← here) later

-- a number that stands is not written over, if the first row that is drawn or the row's own number is over it
stands : (first row x : ℕ) → x < rows → (first ≤ row → x ≤ row) → number_put first row x ≡ x
stands first row x one under = go (ltb row first) refl
  where
    go : (b : Bool) → ltb row first ≡ b → number_put first row x ≡ x
    go true e = rw (e, ne_eqb x no_row (λ h. omega (arith, h)))
    go false e = rw (e, le-ltb row x (omega (arith, under (ltb-false row first e))))

-- where none stands it is written
written : (first row : ℕ) → row < rows → number_put first row no_row ≡ row
written first row one = go (ltb row first) refl
  where
    go : (b : Bool) → ltb row first ≡ b → number_put first row no_row ≡ row
    go true e = rw e
    go false e = rw (e, lt-ltb row no_row (omega arith))

either_way : (b : Bool) {x y : ℕ} → x ≡ y → cond b x y ≡ y
either_way true e = e
either_way false e = refl

module _ (c : Chain) (first at entry : ℕ) (within : first ≤ rows) where
  abbrev test : ℕ → Bool
  test row = row_reads c (seen_at at) (row_at c row)

  more :
      (row : ℕ)
      → first_that test 0 (suc row)
      ≡ cond (ltb (first_that test 0 row) row) (first_that test 0 row) (cond (test row) row (row + 1))
  more row = let same : 0 + row ≡ row = omega arith in rw same at (one_more test 0 row)

  -- the first of so many rows that reads the place
  abbrev lead : ℕ → ℕ
  lead row = cond (ltb (first_that test 0 row) row) (first_that test 0 row) no_row

  -- with one row more, after the first of those before it was found to be `g`
  one_row_more :
      (row g : ℕ) → row < rows → first_that test 0 row ≡ g → (under reads : Bool) → ltb g row ≡ under → test row ≡ reads
      → cond reads (number_put first row (cond under g no_row)) (cond under g no_row) ≡ lead (suc row)
  one_row_more row g one is true reads u r =
      let less = ltb-true g row u in
      let now : first_that test 0 (suc row) ≡ g = more row ∙ rw (is, u) in
      either_way reads (stands first row g (omega arith) (λ h. omega arith)) ∙ rw (now, lt-ltb g (suc row) (omega arith))
  one_row_more row g one is false true u r =
      let now : first_that test 0 (suc row) ≡ row = more row ∙ rw (is, u, r) in
      written first row one ∙ rw (now, lt-ltb row (suc row) (omega arith))
  one_row_more row g one is false false u r =
      let now : first_that test 0 (suc row) ≡ row + 1 = more row ∙ rw (is, u, r) in
      rw (now, le-ltb (row + 1) (suc row) (omega arith))

  pub numbers_so_far :
      (row : ℕ) → row ≤ rows → numbered_to c first at row (forgotten first entry) ≡ cond (ltb entry first) entry (lead row)
  unfolding numbered_to first_that
  numbers_so_far zero most = refl
  numbers_so_far (suc row) most = go (ltb entry first) refl (numbers_so_far row (omega arith))
    where
      go :
          (b : Bool) → ltb entry first ≡ b
          → numbered_to c first at row (forgotten first entry) ≡ cond (ltb entry first) entry (lead row)
          → numbered_to c first at (suc row) (forgotten first entry) ≡ cond (ltb entry first) entry (lead (suc row))
      go true under before =
          let less = ltb-true entry first under in
          let same : numbered_to c first at row (forgotten first entry) ≡ entry = before ∙ rw under in
          rw (same, under) (either_way (test row) (stands first row entry (omega arith) (λ h. omega arith)))
      go false over before =
          let same : numbered_to c first at row (forgotten first entry) ≡ lead row = before ∙ rw over in
          rw (same, over)
          (one_row_more row (first_that test 0 row) (omega arith) refl (ltb (first_that test 0 row) row) (test row) refl refl)
