-- Laws about the rows and the one that tore, and about going from a row to the row after it.
use Prim.Native.Nat.{ℕ, zero, suc, ◌+◌, ◌≤◌, ◌<◌}
use mathlib.Core.Path.{◌≡◌, refl, sym, ap, subst, ◌∙◌}
use mathlib.Core.List.{List}
use mathlib.Core.Bool.{Bool, true, false, true≢false, cond, and-eq-true_iff}
use native.Mathlib.Numerals.{add-one}
use native.Mathlib.Omega.{arith}
use lib.Dec.{eqb, ltb}
use borrow.Author.Tests.{eqb-true, eqb-false, ltb-true}
use Rattle.lent.specs.Refusals.{accepted}
use Rattle.chain.specs.Chain.{Chain, Row as ARow, Whole, Torn, Dark as DarkRow, byte_at, first, capacity, first_ff, terminator, ended, link, row_from, next, rows, row_at}
use Rattle.chain.specs.Inner.{row_ahead, ahead_of}
use Rattle.chain.specs.declared.Head.{Head}
use Rattle.chain.proofs.First.{first_that_lem}
use Rattle.chain.proofs.Laws.{ahead_leads, found_within}
use Rattle.explaining.specs.Explain.{led_to, is_torn, row_that_tore, comes_to, reached, why_in, why}
use Rattle.records.specs.Record.{record_pairs}
use Rattle.explaining.specs.Call.{on_screen}
use Rattle.explaining.specs.Numbers.{told}
use Rattle.explaining.specs.Inner.{after, in_row}
use Rattle.explaining.specs.declared.Reached.{Reached}
use Rattle.std.specs.Prelude.{Option, Some, None, Result, Ok, Err}
use Rattle.explaining.specs.declared.Why.{Why}
use Rattle.explaining.specs.declared.Why.TheVariants.{Cell, Fill, Past, Dark}

-- what is reached is a head and what led there
found_is :
    (own : Head) (led : Option ℕ) (found : Reached) → ◌≡◌ {A = Result Reached ℕ} (Ok (record { head = own; led = led })) (Ok found)
    → ◌≡◌ {A = Reached} (record { head = own; led = led }) found
found_is own led found e = cc

head_same :
    (own : Head) (led : Option ℕ) (found : Reached) → ◌≡◌ {A = Result Reached ℕ} (Ok (record { head = own; led = led })) (Ok found)
    → own ≡ found.head
head_same own led found e = ap (λ (r : Reached). r.head) (found_is own led found e)

-- FF stands where a search finds it
pub found_ff :
    (screen : List ℕ) (start cells bytes : ℕ) {n : ℕ} → first_ff screen start cells bytes ≡ Some n
    → byte_at screen (start + n) ≡ 0xFF
unfolding first_ff
found_ff screen start cells zero e = let z : ◌≡◌ {A = ℕ} 0 1 = cc in absurd (omega arith)
found_ff screen start cells (suc bytes) {n} e =
    go (eqb (byte_at screen (start + cells)) 0xFF) refl (found_ff screen start (cells + 1) bytes) e
  where
    go :
        (b : Bool) → eqb (byte_at screen (start + cells)) 0xFF ≡ b
        → (first_ff screen start (cells + 1) bytes ≡ Some n → byte_at screen (start + n) ≡ 0xFF)
        → cond b (Some cells) (first_ff screen start (cells + 1) bytes) ≡ Some n → byte_at screen (start + n) ≡ 0xFF
    go true h later is = let here : cells ≡ n = cc in rw (← here) (eqb-true (byte_at screen (start + cells)) 0xFF h)
    go false h later is = later is

-- a row of the chain ends as the search for its FF says
abbrev pub Stands : Chain → ARow → Type 0
Stands c (Whole head cells) = (terminator c head ≡ Some cells) × (cells ≤ capacity c.columns head.kind)
Stands c (Torn head) = terminator c head ≡ None
Stands c DarkRow = Unit {0}

-- a row that is not dark
abbrev pub IsLit : ARow → Type 0
IsLit (Whole head cells) = Unit {0}
IsLit (Torn head) = Unit {0}
IsLit DarkRow = ⊥

module _ (c : Chain) where
  stands_from : (head : Head) → Stands c (row_from c head)
  unfolding row_from terminator
  stands_from head = go (terminator c head) refl
    where
      go : (t : Option ℕ) → first_ff c.screen head.start 0 (capacity c.columns head.kind + 1) ≡ t → Stands c (ended head t)
      go (Some n) e = (e, omega (arith, found_within c.screen head.start 0 (capacity c.columns head.kind + 1) e))
      go None e = e

  pub stands : (row : ℕ) → Stands c (row_at c row)
  stands row = subst (Stands c) (ahead_leads c row) (go (ahead_of c row))
    where
      go : (ahead : Option Head) → Stands c (row_ahead c ahead)
      go (Some head) = stands_from head
      go None = tt

  -- a row that the chain leads to is not dark
  lit_from : (head : Head) → IsLit (row_from c head)
  unfolding row_from
  lit_from head = go (terminator c head)
    where
      go : (t : Option ℕ) → IsLit (ended head t)
      go (Some n) = tt
      go None = tt

  -- after a row that tore all are dark
  pub torn_then_dark : (f r : ℕ) → is_torn (row_at c f) ≡ true → f < r → row_at c r ≡ DarkRow
  unfolding row_at next
  torn_then_dark f zero torn less = absurd (omega arith)
  torn_then_dark f (suc r) torn less = go (eqb f r) refl (torn_then_dark f r torn)
    where
      dark_after : (row : ARow) → is_torn row ≡ true → next c row ≡ DarkRow
      dark_after (Whole head cells) h = absurd (true≢false (sym h))
      dark_after (Torn head) h = refl
      dark_after DarkRow h = refl

      go : (b : Bool) → eqb f r ≡ b → (f < r → row_at c r ≡ DarkRow) → next c (row_at c r) ≡ DarkRow
      go true e earlier = dark_after (row_at c r) (rw (eqb-true f r e) at torn)
      go false e earlier = ap (next c) (earlier (omega (arith, eqb-false f r e)))

  -- so one row alone is torn
  pub one_torn : (f r : ℕ) → is_torn (row_at c f) ≡ true → is_torn (row_at c r) ≡ true → f ≡ r
  one_torn f r first second = omega (arith, not_ahead f r first second, not_ahead r f second first)
    where
      not_ahead : (f r : ℕ) → is_torn (row_at c f) ≡ true → is_torn (row_at c r) ≡ true → f < r → ⊥
      not_ahead f r first second less = true≢false (sym second ∙ ap is_torn (torn_then_dark f r first less))

  -- and it is the one that is named
  pub the_torn_one : (row : ℕ) → row < rows → is_torn (row_at c row) ≡ true → row_that_tore c ≡ row
  unfolding row_that_tore
  the_torn_one row more torn =
      let f = row_that_tore c in
      let first = first_that_lem (λ r. is_torn (row_at c r)) 0 rows in
      let not_later : (row < f → ⊥) = λ h. true≢false (sym torn ∙ first.1.1.1 row (omega arith) h) in
      one_torn f row (first.1.1.0 (omega (arith, not_later))) torn

  -- a dark row comes after the row that tore
  pub dark_names : (row : ℕ) → row < rows → row_at c row ≡ DarkRow → (row_that_tore c < row) × (is_torn (row_at c (row_that_tore c)) ≡ true)
  unfolding row_at next
  dark_names zero more dark = absurd (subst IsLit dark (lit_from _))
  dark_names (suc row) more dark = go (row_at c row) refl (dark_names row (omega arith))
    where
      go :
          (one : ARow) → row_at c row ≡ one
          → (row_at c row ≡ DarkRow → (row_that_tore c < row) × (is_torn (row_at c (row_that_tore c)) ≡ true))
          → (row_that_tore c < suc row) × (is_torn (row_at c (row_that_tore c)) ≡ true)
      go (Whole head cells) e earlier = absurd (subst IsLit (sym (ap (next c) e) ∙ dark) (lit_from _))
      go (Torn head) e earlier =
          let torn : is_torn (row_at c row) ≡ true = ap is_torn e in
          let named = the_torn_one row (omega arith) torn in
          (omega arith, rw (named, torn) refl)
      go DarkRow e earlier = let both = earlier e in (omega (arith, both.0), both.1)

  -- a row that the chain leads to is reached at its head
  lit_row : (head : Head) (led : Option ℕ) → Ok (record { head = head; led = led }) ≡ comes_to led (row_that_tore c) (row_from c head)
  unfolding row_from
  lit_row head led = go (terminator c head)
    where
      go : (t : Option ℕ) → Ok (record { head = head; led = led }) ≡ comes_to led (row_that_tore c) (ended head t)
      go (Some n) = refl
      go None = refl

  -- the chain begins at row 0
  pub reached_first : Ok (record { head = first; led = None }) ≡ reached c 0
  unfolding reached led_to row_at
  reached_first = lit_row first None

  -- and goes on from a row to the row after it
  module _ (row : ℕ) (more : row < rows) where
    after_row :
        (one : ARow) → row_at c row ≡ one → Stands c one → (found : Reached)
        → comes_to (led_to c row) (row_that_tore c) one ≡ Ok found → after c row found.head ≡ reached c (suc row)
    unfolding reached led_to row_at next
    after_row (Whole own cells) is s found e =
        let same : own ≡ found.head = head_same own _ found e in
        rw (← same, s.0, is) (lit_row (link c.screen c.attribute (own.start + cells)) _)
    after_row (Torn own) is s found e =
        let same : own ≡ found.head = head_same own _ found e in
        rw (← same, s, is) (ap Err (sym (the_torn_one row more (ap is_torn is))))
    after_row DarkRow is s found e = let z : ◌≡◌ {A = ℕ} 0 1 = cc in absurd (omega arith)

    pub reached_after : (found : Reached) → reached c row ≡ Ok found → after c row found.head ≡ reached c (row + 1)
    unfolding reached
    reached_after found e = rw (add-one row) (after_row (row_at c row) refl (stands row) found e)

    -- after a dark row comes a dark one
    pub reached_dark : (tore : ℕ) → reached c row ≡ Err tore → Err tore ≡ reached c (row + 1)
    unfolding reached row_at next
    reached_dark tore e = rw (add-one row) (go (row_at c row) refl e)
      where
        go :
            (one : ARow) → row_at c row ≡ one → comes_to (led_to c row) (row_that_tore c) one ≡ Err tore
            → Err tore ≡ comes_to (led_to c (suc row)) (row_that_tore c) (next c (row_at c row))
        go (Whole head cells) is h = let z : ◌≡◌ {A = ℕ} 0 1 = cc in absurd (omega arith)
        go (Torn head) is h = let z : ◌≡◌ {A = ℕ} 0 1 = cc in absurd (omega arith)
        go DarkRow is h = rw is (sym h)

-- why a column shows what it shows, from what the chain comes to
module _ (c : Chain) (row column : ℕ) where
  why_row :
      (one : ARow) → Stands c one → (found : Reached) → comes_to (led_to c row) (row_that_tore c) one ≡ Ok found
      → in_row c found column ≡ why_in c (led_to c row) (row_that_tore c) column one
  why_row (Whole own cells) s found e = rw (← found_is own _ found e, s.0)
  why_row (Torn own) s found e = rw (← found_is own _ found e, s)
  why_row DarkRow s found e = let z : ◌≡◌ {A = ℕ} 0 1 = cc in absurd (omega arith)

  pub why_in_row :
      (found : Reached) → reached c row ≡ Ok found
      → in_row c found column ≡ why c row column
  unfolding reached why
  why_in_row found e = why_row (row_at c row) (stands c row) found e

  pub why_dark : (tore : ℕ) → reached c row ≡ Err tore → Dark tore ≡ why c row column
  unfolding reached why
  why_dark tore e = go (row_at c row) e
    where
      go :
          (one : ARow) → comes_to (led_to c row) (row_that_tore c) one ≡ Err tore
          → Dark tore ≡ why_in c (led_to c row) (row_that_tore c) column one
      go (Whole head cells) h = let z : ◌≡◌ {A = ℕ} 0 1 = cc in absurd (omega arith)
      go (Torn head) h = let z : ◌≡◌ {A = ℕ} 0 1 = cc in absurd (omega arith)
      go DarkRow h = let same : row_that_tore c ≡ tore = cc in rw same

pub on_screen_lem : (row column : ℕ) → on_screen row column ≡ true → (row < rows) × (column < record_pairs)
unfolding on_screen
on_screen_lem row column e =
    let both = (and-eq-true_iff (ltb row rows) (ltb column record_pairs)).0 e in
    (ltb-true row rows both.0, ltb-true column record_pairs both.1)

-- an answer of the chain is no refusal
pub why_accepted : (answer : Why) → (told (Ok answer)).refusal ≡ accepted
why_accepted (Cell place kind led) = refl
why_accepted (Fill place led) = refl
why_accepted (Past led) = refl
why_accepted (Dark tore) = refl
