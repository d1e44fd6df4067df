-- Smooth scroll: the statements of specs/Smooth.antt.
use Prim.Native.Nat.{ℕ, ◌+◌, ◌-◌, ◌*◌, ◌/◌, ◌%◌, ◌≤◌, ◌<◌}
use mathlib.Core.Path.{◌≡◌, refl, sym, ap, ◌∙◌}
use mathlib.Core.Bool.{Bool, true, false, and-eq-true_iff, true≢false}
use native.Mathlib.Omega.{arith}
use lib.Dec.{eqb, ltb, leb}
use borrow.Author.Tests.{lt-ltb, le-leb, ltb-true, ltb-false, leb-true, eqb-true, eqb-false}
use Rattle.chain.specs.Chain.{rows}
use Rattle.whole_screen.specs.Screen.{lines, run_start, run_end, screen_lines}
use Rattle.whole_screen.specs.Call.{latch_most}
use Rattle.whole_screen.specs.Shown.{row_in, in_run, Stands}
use Rattle.whole_screen.specs.Smooth.{SameLine, MovesUp, Smooth, SmoothFromRest}
use Rattle.whole_screen.specs.Inner.{shown_at}
use Rattle.whole_screen.proofs.FirstRun.{first_run, moving, rest_without_run, rest_at_0, moves_with_run, ends_after}
use Rattle.whole_screen.proofs.Shown.{Place, Head, Run, Foot, rests, place, row_number, scan_number, next_hidden, rest_hidden}

-- a row of the run is between its ends
in_run_lem : (kinds : ℕ → ℕ) (row : ℕ) → in_run kinds row ≡ true → (run_start kinds ≤ row) × (row < run_end kinds)
in_run_lem kinds row h =
    let both = (and-eq-true_iff (leb (run_start kinds) row) (ltb row (run_end kinds))).0 h in
    (leb-true (run_start kinds) row both.0, ltb-true row (run_end kinds) both.1)

not_in_run : (kinds : ℕ → ℕ) (row : ℕ) → in_run kinds row ≡ false → run_start kinds ≤ row → row < run_end kinds → ⊥
not_in_run kinds row h f g =
    true≢false (sym (rw (le-leb (run_start kinds) row f, lt-ltb row (run_end kinds) g) refl) ∙ h)

-- the numbers of a line before the step and after it: one more in the run, the same elsewhere
pub data Step (first end latch line n m : ℕ) : Type 0 where
  Aside : line < first * 10 → n ≡ line → m ≡ line → Step first end latch line n m
  Moved : first * 10 ≤ line → line < end * 10 - 10 → n ≡ line + latch → m ≡ line + latch + 1 → Step first end latch line n m
  Under : end * 10 - 10 ≤ line → n ≡ line + 10 → m ≡ line + 10 → Step first end latch line n m

module _ (kinds : ℕ → ℕ) (latch : ℕ) (small : latch < latch_most) where
  abbrev first : ℕ
  first = run_start kinds

  abbrev end : ℕ
  end = run_end kinds

  abbrev n : ℕ → ℕ
  n line = shown_at kinds latch line

  abbrev m : ℕ → ℕ
  m line = shown_at kinds (latch + 1) line

  row_before : (line : ℕ) → line < lines → row_in (screen_lines kinds latch) line ≡ n line / 10
  row_before = row_number kinds latch (omega (arith, small))

  -- a line of each list has the same number as one of the other
  alike : (line there : ℕ) → line < lines → there < lines → m line ≡ n there → SameLine (screen_lines kinds (latch + 1)) line (screen_lines kinds latch) there
  alike line there h g e = (
    row_number kinds (latch + 1) (omega (arith, small)) line h
        ∙ ap (λ (k : ℕ). k / 10) e
        ∙ sym (row_number kinds latch (omega (arith, small)) there g),
    scan_number kinds (latch + 1) (omega (arith, small)) line h
        ∙ ap (λ (k : ℕ). k % 10 + 1) e
        ∙ sym (scan_number kinds latch (omega (arith, small)) there g),
  )

  module _ (steps : (line : ℕ) → line < lines → Step first end latch line (n line) (m line)) (some : first < end) where
    among : end ≤ rows
    among = (first_run kinds).among

    stays_aside : (line k j : ℕ) → Step first end latch line k j → (first ≤ k / 10 → k / 10 < end → ⊥) → j ≡ k
    stays_aside line k j (Aside f d e) out = omega (arith, d, e)
    stays_aside line k j (Moved f g d e) out = absurd (out (omega (arith, d, f)) (omega (arith, d, g, small)))
    stays_aside line k j (Under f d e) out = omega (arith, d, e)

    moves_up :
        (line k j i : ℕ) → Step first end latch line k j → (l : ℕ) → Step first end latch (line + 1) i l
        → (first ≤ k / 10) × (k / 10 < end) → (first ≤ i / 10) × (i / 10 < end) → j ≡ i
    moves_up line k j i (Aside f d e) l next a b = absurd (omega (arith, f, d, a.0))
    moves_up line k j i (Moved f g d e) l (Aside h c q) a b = absurd (omega (arith, f, h))
    moves_up line k j i (Moved f g d e) l (Moved h o c q) a b = omega (arith, e, c)
    moves_up line k j i (Moved f g d e) l (Under h c q) a b = absurd (omega (arith, h, c, b.1))
    moves_up line k j i (Under f d e) l next a b = absurd (omega (arith, f, d, a.1))

    -- the next line is not of the run, or there is none
    is_over :
        (line i l : ℕ) → Step first end latch (line + 1) i l → (first ≤ i / 10 → i / 10 < end → ⊥) → first * 10 ≤ line
        → end * 10 - 10 ≤ line + 1
    is_over line i l (Aside f d e) out h = absurd (omega (arith, f, h))
    is_over line i l (Moved f g d e) out h = absurd (out (omega (arith, d, f)) (omega (arith, d, g, small)))
    is_over line i l (Under f d e) out h = f

    comes_in :
        (line k j : ℕ) → Step first end latch line k j → (first ≤ k / 10) × (k / 10 < end)
        → (first * 10 ≤ line → end * 10 - 10 ≤ line + 1) → (j / 10 + 1 ≡ end) × (j % 10 + 1 ≡ latch + 1)
    comes_in line k j (Aside f d e) a over = absurd (omega (arith, f, d, a.0))
    comes_in line k j (Moved f g d e) a over =
        let foot = over f in (omega (arith, foot, g, e, small), omega (arith, foot, g, e, small))
    comes_in line k j (Under f d e) a over = absurd (omega (arith, f, d, a.1))

    in_before : (line : ℕ) → line < lines → in_run kinds (row_in (screen_lines kinds latch) line) ≡ true
        → (first ≤ n line / 10) × (n line / 10 < end)
    in_before line h is = in_run_lem kinds (n line / 10) (ap (in_run kinds) (sym (row_before line h)) ∙ is)

    out_before : (line : ℕ) → line < lines → in_run kinds (row_in (screen_lines kinds latch) line) ≡ false
        → first ≤ n line / 10 → n line / 10 < end → ⊥
    out_before line h is = not_in_run kinds (n line / 10) (ap (in_run kinds) (sym (row_before line h)) ∙ is)

    at_the_foot :
        (line : ℕ) → line < lines
        → (line + 1 < lines → in_run kinds (row_in (screen_lines kinds latch) (line + 1)) ≡ false)
        → first * 10 ≤ line → end * 10 - 10 ≤ line + 1
    at_the_foot line h out f = go (ltb (line + 1) lines) refl
      where
        go : (b : Bool) → ltb (line + 1) lines ≡ b → end * 10 - 10 ≤ line + 1
        go true e =
            let more = ltb-true (line + 1) lines e in
            is_over line (n (line + 1)) (m (line + 1)) (steps (line + 1) more) (out_before (line + 1) more (out more)) f
        go false e = omega (arith, ltb-false (line + 1) lines e, among)

    pub moves :
        ((row : ℕ) → row + 1 ≡ end → Stands (screen_lines kinds latch) row (latch + 1) → ⊥)
        → MovesUp kinds latch (screen_lines kinds latch) (screen_lines kinds (latch + 1))
    moves hidden =
        record {
          stays =
              λ line h out.
              alike line line h h (stays_aside line (n line) (m line) (steps line h) (out_before line h out));
          up =
              λ line h is next.
              let h' : line < lines = omega (arith, h) in
              alike line (line + 1) h' h
              (moves_up line (n line) (m line) (n (line + 1)) (steps line h') (m (line + 1)) (steps (line + 1) h)
              (in_before line h' is) (in_before (line + 1) h next));
          foot =
              λ line h is out.
              let new = comes_in line (n line) (m line) (steps line h) (in_before line h is) (at_the_foot line h out) in (
                ap (λ (k : ℕ). k + 1) (row_number kinds (latch + 1) (omega (arith, small)) line h) ∙ new.0,
                scan_number kinds (latch + 1) (omega (arith, small)) line h ∙ new.1,
              );
          did_not_show = hidden;
        }

  -- without a run nothing moves
  pub nothing_moves :
      first ≡ rows → MovesUp kinds latch (screen_lines kinds latch) (screen_lines kinds (latch + 1))
  nothing_moves none =
      let before = rest_without_run kinds latch none in
      let after = rest_without_run kinds (latch + 1) none in
      record {
        stays = λ line h out. alike line line h h (rests kinds (latch + 1) after line ∙ sym (rests kinds latch before line));
        up = λ line h is next. absurd (not_there line (omega (arith, h)) is);
        foot = λ line h is out. absurd (not_there line h is);
        did_not_show =
            λ row last.
            rest_hidden kinds latch row small before
            (omega (arith, last, none, ends_after kinds, (first_run kinds).among));
      }
    where
      not_there : (line : ℕ) → line < lines → in_run kinds (row_in (screen_lines kinds latch) line) ≡ true → ⊥
      not_there line h is =
          let before = rests kinds latch (rest_without_run kinds latch none) line in
          let at = in_run_lem kinds (n line / 10) (ap (in_run kinds) (sym (row_before line h)) ∙ is) in
          omega (arith, at.0, none, before, h)

both_places :
    (first end latch line n m : ℕ) → Place first end latch line n → Place first end (latch + 1) line m
    → Step first end latch line n m
both_places first end latch line n m (Head f d) (Head g e) = Aside f d e
both_places first end latch line n m (Head f d) (Run g h e) = absurd (omega (arith, f, g))
both_places first end latch line n m (Head f d) (Foot g h e) = absurd (omega (arith, f, g))
both_places first end latch line n m (Run f i d) (Head g e) = absurd (omega (arith, f, g))
both_places first end latch line n m (Run f i d) (Run g h e) = Moved f i d (omega (arith, e))
both_places first end latch line n m (Run f i d) (Foot g h e) = absurd (omega (arith, i, h))
both_places first end latch line n m (Foot f i d) (Head g e) = absurd (omega (arith, f, g))
both_places first end latch line n m (Foot f i d) (Run g h e) = absurd (omega (arith, i, h))
both_places first end latch line n m (Foot f i d) (Foot g h e) = Under i d e

pub smooth : Smooth
smooth kinds latch one small = go (eqb (run_start kinds) rows) refl
  where
    go :
        (b : Bool) → eqb (run_start kinds) rows ≡ b
        → MovesUp kinds latch (screen_lines kinds latch) (screen_lines kinds (latch + 1))
    go true e = nothing_moves kinds latch small (eqb-true (run_start kinds) rows e)
    go false e =
        let run = eqb-false (run_start kinds) rows e in
        let before = moves_with_run kinds latch run one in
        let after = moves_with_run kinds (latch + 1) run (omega arith) in
        moves kinds latch small
        (λ line h.
        both_places (run_start kinds) (run_end kinds) latch line (shown_at kinds latch line) (shown_at kinds (latch + 1) line)
        (place kinds latch (omega (arith, small)) before line) (place kinds (latch + 1) (omega (arith, small)) after line))
        (moving kinds latch before).0 (λ row last. next_hidden kinds latch row small before last)

from_rest :
    (first end line n m : ℕ) → n ≡ line → Place first end 1 line m → end ≡ rows → line < lines
    → Step first end 0 line n m
from_rest first end line n m d (Head g e) last h = Aside g d e
from_rest first end line n m d (Run g i e) last h = Moved g i (omega (arith, d)) (omega (arith, e))
from_rest first end line n m d (Foot g i e) last h = absurd (omega (arith, i, last, h))

pub smooth_from_rest : SmoothFromRest
smooth_from_rest kinds last = go (eqb (run_start kinds) rows) refl
  where
    go : (b : Bool) → eqb (run_start kinds) rows ≡ b → MovesUp kinds 0 (screen_lines kinds 0) (screen_lines kinds 1)
    go true e = nothing_moves kinds 0 (omega arith) (eqb-true (run_start kinds) rows e)
    go false e =
        let run = eqb-false (run_start kinds) rows e in
        let after = moves_with_run kinds 1 run (omega arith) in
        moves kinds 0 (omega arith)
        (λ line h.
        from_rest (run_start kinds) (run_end kinds) line (shown_at kinds 0 line) (shown_at kinds 1 line)
        (rests kinds 0 (rest_at_0 kinds) line) (place kinds 1 (omega arith) after line) last h)
        (moving kinds 1 after).0
        (λ row foot. rest_hidden kinds 0 row (omega arith) (rest_at_0 kinds) (omega (arith, foot, last)))
