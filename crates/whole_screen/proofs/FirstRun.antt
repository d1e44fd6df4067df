-- The run is the first: the statement of specs/Shown.antt.
use Prim.Native.Nat.{ℕ, ◌+◌, ◌-◌, ◌≤◌, ◌<◌}
use mathlib.Core.Path.{◌≡◌, refl, sym, ap, subst, ◌∙◌}
use mathlib.Core.Bool.{Bool, true, false, not, ◌||◌, and-eq-true_iff, true≢false}
use native.Mathlib.Omega.{arith}
use lib.Dec.{eqb, leb, ltb}
use borrow.Author.Tests.{ltb-true, ltb-false, leb-true, eqb-false, eq-eqb, ne_eqb, not-true, not-false}
use Rattle.chain.specs.Chain.{rows}
use Rattle.chain.proofs.First.{First, first_that_lem}
use Rattle.whole_screen.specs.Screen.{scrolls, run_start, run_end, at_rest}
use Rattle.whole_screen.specs.Shown.{RunIsFirst}

module _ (kinds : ℕ → ℕ) where
  start_first : First (λ row. scrolls (kinds row)) 0 rows (run_start kinds)
  unfolding run_start
  start_first = first_that_lem (λ row. scrolls (kinds row)) 0 rows

  pub start_among : run_start kinds ≤ rows
  start_among = start_first.1.0

  end_first : First (λ row. not (scrolls (kinds row))) (run_start kinds) rows (run_end kinds)
  unfolding run_end
  end_first =
      let all : run_start kinds + (rows - run_start kinds) ≡ rows = omega (arith, start_among) in
      let found = first_that_lem (λ row. not (scrolls (kinds row))) (run_start kinds) (rows - run_start kinds) in
      subst (λ (last : ℕ). First (λ row. not (scrolls (kinds row))) (run_start kinds) last (run_end kinds)) all found

  -- it has a row where there is one
  has_a_row : run_start kinds < rows → run_start kinds < run_end kinds
  has_a_row some = go (ltb (run_start kinds) (run_end kinds)) refl
    where
      go : (b : Bool) → ltb (run_start kinds) (run_end kinds) ≡ b → run_start kinds < run_end kinds
      go true e = ltb-true (run_start kinds) (run_end kinds) e
      go false e =
          let same : run_end kinds ≡ run_start kinds = omega (arith, ltb-false (run_start kinds) (run_end kinds) e, end_first.0) in
          let still = not-true _ (end_first.1.1.0 (omega (arith, same))) in
          absurd (true≢false (sym (start_first.1.1.0 some) ∙ ap (λ (r : ℕ). scrolls (kinds r)) (sym same) ∙ still))

pub first_run : RunIsFirst
first_run kinds =
    record {
      ahead = λ row h. (start_first kinds).1.1.1 row (omega arith) h;
      unbroken =
          λ row h.
          let both = (and-eq-true_iff (leb (run_start kinds) row) (ltb row (run_end kinds))).0 h in
          not-false _ ((end_first kinds).1.1.1 row (leb-true _ _ both.0) (ltb-true _ _ both.1));
      has_rows = has_a_row kinds;
      among = (end_first kinds).1.0;
      ends = λ h. not-true _ ((end_first kinds).1.1.0 h);
    }

-- where rows scroll there is a run, and the latch is not 0
pub moving : (kinds : ℕ → ℕ) (latch : ℕ) → at_rest kinds latch ≡ false → (run_start kinds < run_end kinds) × (1 ≤ latch)
unfolding at_rest
moving kinds latch = go (eqb (run_start kinds) rows) (eqb latch 0) refl refl
  where
    go :
        (none zero : Bool) → eqb (run_start kinds) rows ≡ none → eqb latch 0 ≡ zero
        → at_rest kinds latch ≡ false → (run_start kinds < run_end kinds) × (1 ≤ latch)
    go true zero e f h = absurd (true≢false (rw e at h))
    go false true e f h = absurd (true≢false (rw (e, f) at h))
    go false false e f h =
        let some : (run_start kinds ≡ rows → ⊥) = eqb-false (run_start kinds) rows e in
        let more : (latch ≡ 0 → ⊥) = eqb-false latch 0 f in
        (has_a_row kinds (omega (arith, some, start_among kinds)), omega (arith, more))

-- the run as the code finds it
pub record Found (kinds : ℕ → ℕ) (latch first end : ℕ) : Type 0 where
  pub is_first : first ≡ run_start kinds
  pub is_end : end ≡ run_end kinds
  pub moves : at_rest kinds latch ≡ false
  pub some : first < end
  pub among : end ≤ rows

-- no row scrolls, or the latch is 0
pub rest_without_run : (kinds : ℕ → ℕ) (latch : ℕ) → run_start kinds ≡ rows → at_rest kinds latch ≡ true
unfolding at_rest
rest_without_run kinds latch e = rw (eq-eqb (run_start kinds) rows e) refl

pub rest_at_0 : (kinds : ℕ → ℕ) → at_rest kinds 0 ≡ true
unfolding at_rest
rest_at_0 kinds = go (eqb (run_start kinds) rows)
  where
    go : (b : Bool) → (b || true) ≡ true
    go true = refl
    go false = refl

pub moves_with_run :
    (kinds : ℕ → ℕ) (latch : ℕ) → (run_start kinds ≡ rows → ⊥) → 1 ≤ latch → at_rest kinds latch ≡ false
unfolding at_rest
moves_with_run kinds latch run h =
    rw (ne_eqb (run_start kinds) rows run, ne_eqb latch 0 (λ e. omega (arith, e, h))) refl

pub ends_after : (kinds : ℕ → ℕ) → run_start kinds ≤ run_end kinds
ends_after kinds = (end_first kinds).0
