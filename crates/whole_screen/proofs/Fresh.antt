-- The list of a fresh picture: the statements of specs/Fresh.antt.
use Prim.Native.Nat.{ℕ, zero, suc, ◌+◌, ◌-◌, ◌≤◌, ◌<◌}
use mathlib.Core.Path.{◌≡◌, refl, sym, ap, subst}
use mathlib.Core.Bool.{not}
use Rattle.std.proofs.Common.{Option, Some, None}
use native.Mathlib.Nat.{mod-eq_of_lt, mod-lt}
use native.Mathlib.Omega.{arith}
use Rattle.chain.specs.Chain.{Chain, Row, Whole, Torn, Dark, byte_at, first, link, rows, terminator, ended, row_from, next, row_at}
use Rattle.chain.specs.declared.Head.{Head}
use Rattle.chain.proofs.First.{same_first}
use Rattle.records.specs.Record.{record_pairs, head_of, record_of}
use Rattle.picture.specs.Picture.{in_order, record_at, picture_of}
use Rattle.picture.proofs.Records.{same_records, record_in_order}
use Rattle.picture.proofs.Sizes.{records_sized}
use Rattle.whole_screen.specs.Screen.{scrolls, run_start, run_end, at_rest, scrolled, screen_lines}
use Rattle.whole_screen.specs.Call.{kinds_in}
use Rattle.whole_screen.specs.Fresh.{kinds_of, OfTheChain, Row0Stands}
use Rattle.whole_screen.proofs.FirstRun.{start_among}

-- the list goes by the kinds of the rows alone
module _ (f g : ℕ → ℕ) (same : (row : ℕ) → row < rows → f row ≡ g row) where
  same_start : run_start f ≡ run_start g
  unfolding run_start
  same_start = same_first (λ row. scrolls (f row)) (λ row. scrolls (g row)) 0 rows (λ r h u. ap scrolls (same r (omega (arith, u))))

  same_end : run_end f ≡ run_end g
  unfolding run_end
  same_end =
      rw same_start
      (same_first (λ row. not (scrolls (f row))) (λ row. not (scrolls (g row))) (run_start g) (rows - run_start g)
      (λ r h u. ap (λ (k : ℕ). not (scrolls k)) (same r (omega (arith, u, start_among g)))))

  module _ (latch : ℕ) where
    same_rest : at_rest f latch ≡ at_rest g latch
    unfolding at_rest
    same_rest = rw same_start refl

    same_scrolled : (n : ℕ) → in_order (scrolled f latch) n ≡ in_order (scrolled g latch) n
    same_scrolled n = same_records (scrolled f latch) (scrolled g latch) n (λ row h. rw (same_start, same_end) refl)

    pub same_list : screen_lines f latch ≡ screen_lines g latch
    unfolding screen_lines
    same_list = rw (same_rest, same_scrolled) refl

-- a row has the head that it is read from, and its kind is of three bits
own_head : (c : Chain) (head : Head) → head_of (row_from c head) ≡ head
unfolding row_from
own_head c head = go (terminator c head)
  where
    go : (cells : Option ℕ) → head_of (ended head cells) ≡ head
    go (Some cells) = refl
    go None = refl

next_kind : (c : Chain) (row : Row) → (head_of (next c row)).kind < 8
unfolding next link
next_kind c (Whole head cells) =
    let place = head.start + cells in
    rw (own_head c (link c.screen c.attribute place)) (mod-lt (byte_at c.attribute (place + 1)) (omega arith))
next_kind c (Torn head) = omega arith
next_kind c Dark = omega arith

three_bits : (c : Chain) (row : ℕ) → kinds_of c row < 8
unfolding row_at
three_bits c zero = subst (λ (head : Head). head.kind < 8) (sym (own_head c first)) (omega arith)
three_bits c (suc row) = next_kind c (row_at c row)

-- a fresh picture has the chain's kinds
fresh_kind : (c : Chain) → c.columns ≤ record_pairs → (row : ℕ) → row < rows → kinds_in (picture_of c) row ≡ kinds_of c row
unfolding kinds_in record_of
fresh_kind c wide row h =
    rw (record_in_order (record_at c) rows row h (λ r under. records_sized c r wide)) (mod-eq_of_lt (three_bits c row))

pub of_the_chain : OfTheChain
of_the_chain c latch wide = same_list (kinds_in (picture_of c)) (kinds_of c) (fresh_kind c wide) latch

pub row_0_stands : Row0Stands
unfolding row_at
row_0_stands c = ap (λ (head : Head). scrolls head.kind) (own_head c first)
