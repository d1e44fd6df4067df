-- The lines of the screen by their numbers among those of all rows.
use Prim.Native.Nat.{ℕ, zero, suc, ◌+◌, ◌-◌, ◌*◌, ◌/◌, ◌≤◌, ◌<◌}
use mathlib.Core.Path.{◌≡◌, refl, sym, ap, ◌∙◌}
use mathlib.Core.List.{List, ◌++◌}
use mathlib.Core.Bool.{Bool, true, false, cond}
use native.Mathlib.Nat.{zero-add}
use native.Mathlib.Omega.{arith}
use lib.Dec.{eqb, ltb, leb}
use borrow.Author.Tests.{lt-ltb, le-ltb, le-leb, lt-leb, ne_eqb, eqb-true, eqb-false, ltb-true, ltb-false}
use Rattle.lent.specs.Lengths.{list_bytes}
use Rattle.chain.specs.Chain.{rows, rows_at_rest}
use Rattle.picture.specs.Picture.{in_order}
use Rattle.picture.proofs.Records.{same_records}
use Rattle.whole_screen.specs.Screen.{lines_of, run_start, run_end, at_rest, screen_lines}
use Rattle.whole_screen.specs.Call.{latch_most}
use Rattle.whole_screen.specs.Inner.{numbered, lines_from, number_at, shown_at, by_number}
use Rattle.whole_screen.proofs.Numbers.{pieces_split, of_a_row, in_full_lem}
use Rattle.whole_screen.proofs.FirstRun.{first_run, moving, Found}

module _ (first end latch : ℕ) (some : first < end) (small : latch ≤ latch_most) where
  -- a line ahead of the run, of the run, and after it
  pub at_head : (line : ℕ) → line < first * 10 → number_at first end latch line ≡ line
  unfolding number_at
  at_head line h = rw (lt-ltb line (first * 10) h) refl

  pub at_run :
      (line : ℕ) → first * 10 ≤ line → line < end * 10 - 10 → number_at first end latch line ≡ line + latch
  unfolding number_at
  at_run line h g = rw (le-ltb line (first * 10) h, lt-ltb line (end * 10 - 10) g) refl

  pub at_foot :
      (line : ℕ) → first * 10 ≤ line → end * 10 - 10 ≤ line → number_at first end latch line ≡ line + 10
  unfolding number_at
  at_foot line h g = rw (le-ltb line (first * 10) h, le-ltb line (end * 10 - 10) g) refl

  -- how many lines show ahead of a row; what a row loses, and what is left of it
  abbrev ahead : ℕ → ℕ
  ahead row = cond (leb row first) (row * 10) (cond (ltb row end) (row * 10 - latch) (row * 10 - 10))

  abbrev top : ℕ → ℕ
  top row = cond (eqb row first) latch 0

  abbrev bottom : ℕ → ℕ
  bottom row = cond (eqb (row + 1) end) (10 - latch) 0

  abbrev left : ℕ → ℕ
  left row = 10 - (top row + bottom row)

  record Step (row : ℕ) : Type 0 where
    counted : ahead (suc row) ≡ ahead row + left row
    numbers : (k : ℕ) → k < left row → number_at first end latch (ahead row + k) ≡ row * 10 + top row + k
    fits : top row + left row ≤ 10

  made :
      (row t b a n : ℕ) → top row ≡ t → bottom row ≡ b → ahead row ≡ a → ahead (suc row) ≡ n → n ≡ a + (10 - (t + b))
      → ((k : ℕ) → k < 10 - (t + b) → number_at first end latch (a + k) ≡ row * 10 + t + k)
      → t + (10 - (t + b)) ≤ 10 → Step row
  made row t b a n is_top is_bottom is_ahead is_next sum each fit =
      record {
        counted = rw (is_next, is_ahead, is_top, is_bottom) sum;
        numbers = rw (is_ahead, is_top, is_bottom) each;
        fits = rw (is_top, is_bottom) fit;
      }

  -- six places of a row: ahead of the run; the run's only row, its first, one in its midst, its last; after the run
  step : (row : ℕ) → Step row
  step row = go (ltb row first) (eqb row first) (eqb (row + 1) end) (ltb row end) refl refl refl refl
    where
      go :
          (before is_first is_last within : Bool) → ltb row first ≡ before → eqb row first ≡ is_first
          → eqb (row + 1) end ≡ is_last → ltb row end ≡ within → Step row
      go true is_first is_last within e f g h =
          let under : row < first = ltb-true row first e in
          made row 0 0 (row * 10) (suc row * 10)
          (rw (ne_eqb row first (λ same. omega (arith, same))) refl)
          (rw (ne_eqb (row + 1) end (λ same. omega (arith, same))) refl)
          (rw (le-leb row first (omega arith)) refl)
          (rw (le-leb (suc row) first (omega arith)) refl)
          (omega arith)
          (λ k more. at_head (row * 10 + k) (omega arith) ∙ omega arith)
          (omega arith)
      go false true true within e f g h =
          let same : row ≡ first = eqb-true row first f in
          let last : row + 1 ≡ end = eqb-true (row + 1) end g in
          made row latch (10 - latch) (row * 10) (suc row * 10 - 10) (rw f refl) (rw g refl)
          (rw (le-leb row first (omega (arith, same))) refl)
          (rw (lt-leb (suc row) first (omega (arith, same)), le-ltb (suc row) end (omega (arith, last))) refl)
          (omega (arith, small))
          (λ k more. absurd (omega (arith, small)))
          (omega (arith, small))
      go false true false within e f g h =
          let same : row ≡ first = eqb-true row first f in
          let other : (row + 1 ≡ end → ⊥) = eqb-false (row + 1) end g in
          made row latch 0 (row * 10) (suc row * 10 - latch) (rw f refl) (rw g refl)
          (rw (le-leb row first (omega (arith, same))) refl)
          (rw (lt-leb (suc row) first (omega (arith, same)), lt-ltb (suc row) end (omega (arith, same, other))) refl)
          (omega (arith, small))
          (λ k more. at_run (row * 10 + k) (omega (arith, same)) (omega (arith, same, other, small)) ∙ omega arith)
          (omega (arith, small))
      go false false true within e f g h =
          let over : first ≤ row = ltb-false row first e in
          let other : (row ≡ first → ⊥) = eqb-false row first f in
          let last : row + 1 ≡ end = eqb-true (row + 1) end g in
          made row 0 (10 - latch) (row * 10 - latch) (suc row * 10 - 10) (rw f refl) (rw g refl)
          (rw (lt-leb row first (omega (arith, other)), lt-ltb row end (omega (arith, last))) refl)
          (rw (lt-leb (suc row) first (omega arith), le-ltb (suc row) end (omega (arith, last))) refl)
          (omega (arith, small, other))
          (λ k more.
          at_run (row * 10 - latch + k) (omega (arith, small, other)) (omega (arith, small, other, last))
          ∙ omega (arith, small, other))
          (omega (arith, small))
      go false false false true e f g h =
          let over : first ≤ row = ltb-false row first e in
          let other : (row ≡ first → ⊥) = eqb-false row first f in
          let not_last : (row + 1 ≡ end → ⊥) = eqb-false (row + 1) end g in
          let under : row < end = ltb-true row end h in
          made row 0 0 (row * 10 - latch) (suc row * 10 - latch) (rw f refl) (rw g refl)
          (rw (lt-leb row first (omega (arith, other)), h) refl)
          (rw (lt-leb (suc row) first (omega arith), lt-ltb (suc row) end (omega (arith, not_last))) refl)
          (omega (arith, small, other))
          (λ k more.
          at_run (row * 10 - latch + k) (omega (arith, small, other)) (omega (arith, small, other, not_last))
          ∙ omega (arith, small, other))
          (omega arith)
      go false false false false e f g h =
          let over : end ≤ row = ltb-false row end h in
          made row 0 0 (row * 10 - 10) (suc row * 10 - 10) (rw f refl) (rw g refl)
          (rw (lt-leb row first (omega arith), h) refl)
          (rw (lt-leb (suc row) first (omega arith), le-ltb (suc row) end (omega arith)) refl)
          (omega arith)
          (λ k more. at_foot (row * 10 - 10 + k) (omega arith) (omega arith) ∙ omega arith)
          (omega arith)

  abbrev shown : ℕ → List ℕ
  shown row = lines_of row (1 + top row) (left row)

  abbrev by_numbers : ℕ → List ℕ
  by_numbers = in_order (λ line. numbered (number_at first end latch line))

  rows_by_number : (row : ℕ) → in_order shown row ≡ by_numbers (ahead row)
  unfolding in_order
  rows_by_number zero = rw (le-leb 0 first (omega arith)) refl
  rows_by_number (suc row) =
      let s = step row in
      let of_row = of_a_row row (top row) (left row) (row * 10 + top row) s.fits refl in
      let each =
      same_records (λ k. numbered (row * 10 + top row + k)) (λ k. numbered (number_at first end latch (ahead row + k)))
      (left row) (λ k h. ap numbered (sym (s.numbers k h))) in
      ap (λ (l : List ℕ). l ++ shown row) (rows_by_number row)
      ∙ ap (λ (l : List ℕ). by_numbers (ahead row) ++ l) (of_row ∙ each)
      ∙ sym (pieces_split (λ line. numbered (number_at first end latch line)) (ahead row) (left row))
      ∙ ap by_numbers (sym s.counted)

pub by_number_lem : (kinds : ℕ → ℕ) (latch : ℕ) → latch ≤ latch_most → screen_lines kinds latch ≡ by_number (shown_at kinds latch)
unfolding screen_lines shown_at
by_number_lem kinds latch small = go (at_rest kinds latch) refl
  where
    go :
        (b : Bool) → at_rest kinds latch ≡ b
        → screen_lines kinds latch ≡ by_number (shown_at kinds latch)
    go true e =
        rw e
        (in_full_lem 24
        ∙ same_records (λ line. numbered (0 + line)) numbered 240 (λ line h. ap numbered (zero-add line)))
    go false e =
        let run = moving kinds latch e in
        let among = (first_run kinds).among in
        let full : ahead (run_start kinds) (run_end kinds) latch run.0 small rows ≡ 240 =
        rw (lt-leb rows (run_start kinds) (omega (arith, run.0, among)), le-ltb rows (run_end kinds) among) refl in
        rw e
        (rows_by_number (run_start kinds) (run_end kinds) latch run.0 small rows
        ∙ ap (by_numbers (run_start kinds) (run_end kinds) latch run.0 small) full)

-- the list in three parts, as the code fills it
module _ (first end latch : ℕ) (some : first < end) (among : end ≤ rows) (small : latch ≤ latch_most) where
  abbrev number : ℕ → List ℕ
  number line = numbered (number_at first end latch line)

  pub three_parts :
      lines_from 0 (first * 10) ++ (lines_from (first * 10 + latch) ((end - 1) * 10 - first * 10) ++ lines_from ((end - 1) * 10 + 10) (240 - (end - 1) * 10))
      ≡ by_number (number_at first end latch)
  three_parts =
      let run = (end - 1) * 10 - first * 10 in
      let rest = 240 - (end - 1) * 10 in
      let all : first * 10 + (run + rest) ≡ 240 = omega arith in
      let top = same_records (λ k. numbered (0 + k)) number (first * 10) (λ k h. ap numbered (zero-add k ∙ sym (at_head first end latch some small k h))) in
      let moved =
      same_records (λ k. numbered (first * 10 + latch + k)) (λ k. number (first * 10 + k)) run
      (λ k h. ap numbered (sym (at_run first end latch some small (first * 10 + k) (omega arith) (omega arith) ∙ omega arith))) in
      let under =
      same_records (λ k. numbered ((end - 1) * 10 + 10 + k)) (λ k. number (first * 10 + (run + k))) rest
      (λ k h. ap numbered (sym (at_foot first end latch some small (first * 10 + (run + k)) (omega arith) (omega arith) ∙ omega arith))) in
      sym
      (ap (in_order number) (sym all)
      ∙ pieces_split number (first * 10) (run + rest)
      ∙ ap (λ (l : List ℕ). in_order number (first * 10) ++ l) (pieces_split (λ k. number (first * 10 + k)) run rest)
      ∙ rw (top, moved, under) refl)

-- the list as the code leaves it
pub screen_at_rest :
    (kinds : ℕ → ℕ) (latch bytes : ℕ) → at_rest kinds latch ≡ true → bytes ≡ list_bytes
    → lines_from 0 (bytes / 2) ≡ screen_lines kinds latch
unfolding screen_lines
screen_at_rest kinds latch bytes e f = rw (e, f) (sym (in_full_lem rows_at_rest))

pub screen_scrolled :
    (kinds : ℕ → ℕ) (latch : ℕ) {first end : ℕ} → latch ≤ latch_most → Found kinds latch first end
    → by_number (number_at first end latch) ≡ screen_lines kinds latch
unfolding shown_at
screen_scrolled kinds latch small f =
    sym (by_number_lem kinds latch small ∙ rw (f.moves, ← f.is_first, ← f.is_end) refl)
