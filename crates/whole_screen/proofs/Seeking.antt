-- The kinds of a picture's rows, and the search for the first row that scrolls, or after it the first that does not.
use Prim.Native.Nat.{ℕ, ◌+◌, ◌-◌, ◌*◌, ◌/◌, ◌%◌, ◌≤◌, ◌<◌}
use mathlib.Core.Path.{◌≡◌, refl, sym, ap, subst, ◌∙◌}
use mathlib.Core.List.{List}
use mathlib.Core.Bool.{Bool, true, false, not, cond, true≢false}
use native.Mathlib.Omega.{arith}
use lib.ListN.{get_or, drop}
use lib.Seq.{get_or-take, get_or-drop}
use lib.Dec.{eqb, ltb}
use borrow.Author.Tests.{ltb-true, ltb-false, ne_eqb, eq-eqb, eqb-true, eqb-false}
use Rattle.std.proofs.Common.{Option, Some, None, MatchOption, unwrap_or}
use Rattle.machine.specs.Settings.{bit}
use Rattle.chain.specs.Chain.{rows}
use Rattle.chain.specs.First.{first_that}
use Rattle.chain.proofs.First.{First, first_that_lem}
use Rattle.records.specs.Record.{record_bytes, kind_at}
use Rattle.picture.specs.Picture.{record_in}
use Rattle.whole_screen.specs.declared.Run.{Run}
use Rattle.whole_screen.specs.Screen.{scrolls, run_start, run_end, at_rest}
use Rattle.whole_screen.specs.Call.{kinds_in}
use Rattle.whole_screen.specs.Inner.{run_of}
use Rattle.whole_screen.proofs.FirstRun.{Found, moving, first_run, rest_without_run, moves_with_run}

bit_2 : (byte : ℕ) → byte % 8 / 4 ≡ bit 2 (byte % 8)
bit_2 byte = omega arith

pub kind_read :
    (picture : List ℕ) (row : ℕ)
    → eqb (get_or picture (row * record_bytes + kind_at) 0 % 8 / 4) 1 ≡ scrolls (kinds_in picture row)
unfolding kinds_in record_in
kind_read picture row =
    let there =
    get_or-take record_bytes (drop (row * record_bytes) picture) kind_at 0 (omega arith)
    ∙ get_or-drop (row * record_bytes) picture kind_at 0 in
    rw there (ap (λ (n : ℕ). eqb n 1) (bit_2 (get_or picture (row * record_bytes + kind_at) 0)))

-- what a search from a row on tells
abbrev pub Sought : (test : ℕ → Bool) → (from : ℕ) → Option ℕ → Type 0
Sought test from found =
    MatchOption found ((row : ℕ) → from ≤ row → row < rows → test row ≡ false)
    (λ at. (from ≤ at) × (at < rows) × (test at ≡ true) × ((row : ℕ) → from ≤ row → row < at → test row ≡ false))

module _ (test : ℕ → Bool) (from : ℕ) where
  -- no two rows are the first
  not_ahead : {a b : ℕ} → First test from rows a → First test from rows b → (a < b → ⊥)
  not_ahead f g h = absurd (true≢false (sym (f.1.1.0 (omega (arith, g.1.0))) ∙ g.1.1.1 _ f.0 h))

  one_first : (a b : ℕ) → First test from rows a → First test from rows b → a ≡ b
  one_first a b f g = go (ltb a b) (ltb b a) refl refl
    where
      go : (under over : Bool) → ltb a b ≡ under → ltb b a ≡ over → a ≡ b
      go true over e h = absurd (not_ahead f g (ltb-true a b e))
      go false true e h = absurd (not_ahead g f (ltb-true b a h))
      go false false e h = omega (arith, ltb-false a b e, ltb-false b a h)

  is_first : (found : Option ℕ) → from ≤ rows → Sought test from found → First test from rows (unwrap_or found rows)
  is_first None h none = (h, (omega arith, (λ under. absurd (omega arith), none)))
  is_first (Some at) h some = (some.0, (omega (arith, some.1), (λ under. some.2, some.3)))

  pub sought : (found : Option ℕ) → from ≤ rows → Sought test from found → unwrap_or found rows ≡ first_that test from (rows - from)
  sought found h s =
      let all : from + (rows - from) ≡ rows = omega (arith, h) in
      let there = first_that_lem test from (rows - from) in
      one_first _ _ (is_first found h s) (subst (λ (last : ℕ). First test from last (first_that test from (rows - from))) all there)

module _ (kinds : ℕ → ℕ) where
  pub no_run : Sought (λ row. scrolls (kinds row)) 0 None → None ≡ run_of kinds
  unfolding run_of run_start
  no_run s = rw (eq-eqb _ rows (sym (sought (λ row. scrolls (kinds row)) 0 None (omega arith) s))) refl

  pub the_run :
      {first end : ℕ} (found : Option ℕ) → Sought (λ row. scrolls (kinds row)) 0 (Some first)
      → Sought (λ row. not (scrolls (kinds row))) first found → end ≡ unwrap_or found rows
      → Some (record { first = first; end = end }) ≡ run_of kinds
  unfolding run_of run_start run_end
  the_run {first} {end} found s t e =
      let start : first ≡ first_that (λ row. scrolls (kinds row)) 0 rows = sought (λ row. scrolls (kinds row)) 0 (Some first) (omega arith) s in
      let last = sought (λ row. not (scrolls (kinds row))) first found (omega (arith, s.1)) t in
      rw (← start, ne_eqb first rows (λ same. omega (arith, same, s.1)), e, last) refl

-- the run as the code finds it
module _ (kinds : ℕ → ℕ) (latch : ℕ) where
  abbrev run_unless : (none : Bool) → Option Run
  run_unless none = cond none None (Some (record { first = run_start kinds; end = run_end kinds }))

  pub rest_without : None ≡ run_of kinds → at_rest kinds latch ≡ true
  unfolding run_of
  rest_without = go (eqb (run_start kinds) rows) refl
    where
      go :
          (none : Bool) → eqb (run_start kinds) rows ≡ none
          → None ≡ run_unless none → at_rest kinds latch ≡ true
      go true e h = rest_without_run kinds latch (eqb-true _ _ e)
      go false e h = absurd (subst (λ (found : Option Run). MatchOption found (Unit {0}) (λ run. ⊥)) h tt)

  pub run_found : {run : Run} → Some run ≡ run_of kinds → 1 ≤ latch → Found kinds latch run.first run.end
  unfolding run_of
  run_found {run} h more = go (eqb (run_start kinds) rows) refl h
    where
      go :
          (none : Bool) → eqb (run_start kinds) rows ≡ none
          → Some run ≡ run_unless none → Found kinds latch run.first run.end
      go true e h = absurd (subst (λ (found : Option Run). MatchOption found ⊥ (λ run. Unit {0})) h tt)
      go false e h =
          let same = ap (λ (found : Option Run). unwrap_or found run) h in
          let moves = moves_with_run kinds latch (eqb-false _ _ e) more in
          let is_first = ap (λ (r : Run). r.first) same in
          let is_end = ap (λ (r : Run). r.end) same in
          record {
            is_first = is_first;
            is_end = is_end;
            moves = moves;
            some = rw (is_first, is_end) (moving kinds latch moves).0;
            among = rw is_end (first_run kinds).among;
          }
