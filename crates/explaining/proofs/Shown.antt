-- What the answers say: the statements of specs/Shown.antt.
use Prim.Native.Nat.{ℕ, zero, suc, ◌+◌, ◌<◌}
use mathlib.Core.Path.{◌≡◌, refl, sym, ap, subst, ◌∙◌}
use mathlib.Core.List.{List}
use mathlib.Core.Bool.{true}
use native.Mathlib.Numerals.{add-one}
use native.Mathlib.Omega.{arith}
use lib.Dec.{ltb, leb}
use borrow.Author.Tests.{lt-ltb, le-ltb, le-leb, lt-leb, ltb-true, ltb-false, leb-true, leb-false}
use Rattle.lent.proofs.Tests.{either}
use Rattle.chain.specs.Chain.{Chain, Row as ARow, Whole, Torn, Dark as DarkRow, byte_at, capacity, terminator, ended, link, row_from, next, rows, row_at}
use Rattle.chain.specs.declared.Head.{Head}
use Rattle.chain.proofs.Alike.{same_place}
use Rattle.records.specs.Record.{cells_shown, head_of, record_of}
use Rattle.records.proofs.Record.{ff_is_no_cell}
use Rattle.picture.specs.Picture.{record_at}
use Rattle.explaining.specs.Explain.{low_link, led_to, row_that_tore, cell_of, why_in, why}
use Rattle.explaining.specs.Shown.{HasHead, IsLink, LedSo, Holds, ExactlyWhenTrue, pair_in, Shows, ShowsWhatItSays, IsFirstFf, NamesTheFirstFf, OneRowTore, led_in, LinkHolds}
use Rattle.explaining.specs.declared.Why.{Why}
use Rattle.std.specs.Prelude.{Option, Some, None}
use Rattle.explaining.specs.declared.Why.TheVariants.{Cell, Fill, Past, Dark}
use Rattle.explaining.proofs.Laws.{found_ff, Stands, stands, IsLit, one_torn, the_torn_one, dark_names}
use Rattle.explaining.proofs.Pairs.{shown_at, row_shows}

module _ (c : Chain) where
  -- the link that is named is the one that led to the row
  led_given : (row : ℕ) → IsLit (row_at c row) → LedSo c row (led_to c row)
  unfolding led_to row_at next
  led_given zero lit = refl
  led_given (suc row) lit = go (row_at c row) refl
    where
      go : (one : ARow) → row_at c row ≡ one → IsLink c (suc row) (low_link (row_at c row))
      go (Whole head cells) is =
          record { before = row; is_before = omega arith; head = head; cells = cells; whole = is; at = ap low_link is }
      go (Torn head) is = absurd (subst (λ (r : ARow). IsLit (next c r)) is lit)
      go DarkRow is = absurd (subst (λ (r : ARow). IsLit (next c r)) is lit)

  led_only : (row : ℕ) (led : Option ℕ) → LedSo c row led → led ≡ led_to c row
  unfolding led_to
  led_only row None so = rw so
  led_only row (Some place) so = rw (so.is_before, add-one so.before, so.whole, so.at)

  module _ (row column : ℕ) where
    abbrev by : Option ℕ
    by = led_to c row

    abbrev answer : ARow → Why
    answer one = why_in c by (row_that_tore c) column one

    given : (one : ARow) → row_at c row ≡ one → Stands c one → row < rows → Holds c row column (answer one)
    given (Whole head cells) is s more =
        let led = led_given row (rw is tt) in
        let has : HasHead (row_at c row) head = rw is refl in
        either (Holds c row column) (leb (capacity c.columns head.kind) column) _ _
        (λ h. record { head = head; has = has; no_room = leb-true _ _ h; led_so = led })
        (λ h.
        either (Holds c row column) (ltb column cells) _ _
        (λ g. record { head = head; has = has; among = rw is (ltb-true _ _ g); at = refl; of_kind = refl; led_so = led })
        (λ g.
        record {
          head = head;
          cells = cells;
          whole = is;
          ended = ltb-false _ _ g;
          room = leb-false _ _ h;
          at = refl;
          led_so = led;
        }))
    given (Torn head) is s more =
        let led = led_given row (rw is tt) in
        let has : HasHead (row_at c row) head = rw is refl in
        either (Holds c row column) (leb (capacity c.columns head.kind) column) _ _
        (λ h. record { head = head; has = has; no_room = leb-true _ _ h; led_so = led })
        (λ h. record { head = head; has = has; among = rw is (leb-false _ _ h); at = refl; of_kind = refl; led_so = led })
    given DarkRow is s more =
        let names = dark_names c row more is in record { dark = is; ahead = names.0; torn = names.1 }

    -- an answer that holds is the one that is given
    only : (one : ARow) → row_at c row ≡ one → Stands c one → row < rows → (told : Why) → Holds c row column told → told ≡ answer one
    only one is s more (Cell place kind led) h = cell one (rw is at h.has) (rw is at h.among) s
      where
        by_led : led ≡ by
        by_led = led_only row led h.led_so

        cell : (one : ARow) → HasHead one h.head → column < cells_shown c one → Stands c one → Cell place kind led ≡ answer one
        cell (Whole own cells) has among s =
            rw (lt-leb (capacity c.columns own.kind) column (omega (arith, s.1)), lt-ltb _ _ among, has, h.at, h.of_kind, by_led)
        cell (Torn own) has among s = rw (lt-leb _ _ among, has, h.at, h.of_kind, by_led)
        cell DarkRow has among s = absurd has
    only one is s more (Fill place led) h =
        rw (sym is ∙ h.whole, lt-leb _ _ h.room, le-ltb _ _ h.ended, h.at, led_only row led h.led_so)
    only one is s more (Past led) h = past one (rw is at h.has)
      where
        past : (one : ARow) → HasHead one h.head → Past led ≡ answer one
        past (Whole own cells) has = rw (has, le-leb _ _ h.no_room, led_only row led h.led_so)
        past (Torn own) has = rw (has, le-leb _ _ h.no_room, led_only row led h.led_so)
        past DarkRow has = absurd has
    only one is s more (Dark tore) h =
        rw (sym is ∙ h.dark, the_torn_one c tore (omega (arith, h.ahead)) h.torn)

pub exactly_when_true : ExactlyWhenTrue
unfolding why
exactly_when_true c row column more = (
  given c row column (row_at c row) refl (stands c row) more,
  only c row column (row_at c row) refl (stands c row) more,
)

pub shows_what_it_says : ShowsWhatItSays
unfolding why record_of
shows_what_it_says c row column wide under = go (row_at c row) refl (stands c row) (row_shows c row column wide under)
  where
    -- the pair of a cell, and the record's kind
    shown :
        (one : ARow) (head : Head) → row_at c row ≡ one → head_of one ≡ head → ltb column (cells_shown c one) ≡ true
        → pair_in (record_at c row) column ≡ shown_at c (row_at c row) column
        → Shows c row column (cell_of head (led_to c row) column)
    shown one head is has among e = (
      e ∙ rw (is, among, has, same_place, same_place),
      rw (is, has),
    )

    go :
        (one : ARow) → row_at c row ≡ one → Stands c one
        → pair_in (record_at c row) column ≡ shown_at c (row_at c row) column
        → Shows c row column (why_in c (led_to c row) (row_that_tore c) column one)
    go (Whole head cells) is s e =
        either (Shows c row column) (leb (capacity c.columns head.kind) column) _ _
        (λ h. e ∙ rw (is, le-ltb column cells (omega (arith, s.1, leb-true (capacity c.columns head.kind) column h))))
        (λ h.
        either (Shows c row column) (ltb column cells) _ _ (λ g. shown (Whole head cells) head is refl g e) (λ g. e ∙ rw (is, g)))
    go (Torn head) is s e =
        either (Shows c row column) (leb (capacity c.columns head.kind) column) _ _
        (λ h. e ∙ rw (is, le-ltb _ _ (leb-true _ _ h)))
        (λ h. shown (Torn head) head is refl (lt-ltb column (capacity c.columns head.kind) (leb-false _ _ h)) e)
    go DarkRow is s e = e ∙ rw (is, le-ltb column 0 (omega arith))

-- what is said by the answer that is given
pub holds_as : (c : Chain) (row column : ℕ) → row < rows → {told : Why} → why c row column ≡ told → Holds c row column told
holds_as c row column more e = subst (Holds c row column) e (exactly_when_true c row column more).0

pub one_row_tore : OneRowTore
one_row_tore c row column tore more e =
    let torn = (holds_as c row column more e).torn in (torn, λ other h. one_torn c other tore h torn)

pub names_the_first_ff : NamesTheFirstFf
unfolding row_from terminator
names_the_first_ff c row column place led head more e has =
    let h = holds_as c row column more e in
    let own = h.head in
    let same : own ≡ head = subst (λ (r : ARow). HasHead r head) h.whole has in
    let ends : terminator c own ≡ Some h.cells = (subst (Stands c) h.whole (stands c row)).0 in
    let first : IsFirstFf c own place =
    record {
      cells = h.cells;
      at = h.at;
      is_ff = rw (h.at, same_place) (found_ff c.screen own.start 0 _ ends);
      none_ahead = λ cell under is. ff_is_no_cell c own cell (rw ends under) is;
    } in
    subst (λ (one : Head). IsFirstFf c one place) same first

-- a row has the head that it is read from
own_head : (c : Chain) (own head : Head) → HasHead (row_from c own) head → own ≡ head
unfolding row_from
own_head c own head = go (terminator c own)
  where
    go : (t : Option ℕ) → HasHead (ended own t) head → own ≡ head
    go (Some cells) has = has
    go None has = has

module _ (c : Chain) (row column place : ℕ) where
  -- the link that an answer names is one
  linked : (told : Why) → Holds c row column told → led_in told ≡ Some place → IsLink c row place
  linked (Cell at kind led) h e = subst (LedSo c row) e h.led_so
  linked (Fill at led) h e = subst (LedSo c row) e h.led_so
  linked (Past led) h e = subst (LedSo c row) e h.led_so
  linked (Dark tore) h e = let z : ◌≡◌ {A = ℕ} 0 1 = cc in absurd (omega arith)

  -- and points to the row
  points : (l : IsLink c row place) (head : Head) → HasHead (row_at c row) head → link c.screen c.attribute (l.head.start + l.cells) ≡ head
  unfolding row_at next
  points l head has =
      own_head c _ head (rw (l.is_before, add-one l.before, l.whole) at has)

  stands_there : (memory : List ℕ) (l : IsLink c row place) → byte_at memory place ≡ byte_at memory (l.head.start + l.cells + 1)
  stands_there memory l = ap (byte_at memory) l.at ∙ same_place memory (l.head.start + l.cells + 1)

pub link_holds : LinkHolds
unfolding link
link_holds c row column place head more e has small =
    let l = linked c row column place (why c row column) (exactly_when_true c row column more).0 e in
    let same = points c row column place l head has in
    let low = stands_there c row column place c.screen l in
    (rw (← same) (omega (arith, low)), rw (← same, stands_there c row column place c.attribute l))
