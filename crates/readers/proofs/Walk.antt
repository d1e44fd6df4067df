-- The walk that seeks the first reader: what holds when it comes to a row, how it begins, goes on and ends.
use Prim.Native.Nat.{ℕ, zero, suc, ◌+◌, ◌-◌, ◌≤◌, ◌<◌}
use mathlib.Core.Path.{◌≡◌, refl, sym, ap, ◌∙◌}
use mathlib.Core.Bool.{Bool, true, false}
use native.Mathlib.Numerals.{add-one}
use native.Mathlib.Omega.{arith}
use borrow.Author.Tests.{lt-ltb}
use Rattle.std.specs.Prelude.{Option, Some, None}
use Rattle.std.specs.Bool.{then_some}
use Rattle.memories.specs.declared.view8088.Seen.{Seen}
use Rattle.memories.specs.declared.view8088.Seen.TheVariants.{Shared}
use Rattle.chain.specs.Chain.{Chain, Whole, Torn, Dark as DarkRow, first, link, row_from, next, rows, row_at}
use Rattle.chain.specs.Reading.{screen_read, attribute_read}
use Rattle.chain.specs.First.{first_that}
use Rattle.chain.specs.Inner.{row_ahead, ahead_of}
use Rattle.chain.specs.declared.Head.{Head}
use Rattle.chain.proofs.Laws.{ahead_leads}
use Rattle.readers.specs.Readers.{row_reads, first_reader}
use Rattle.readers.specs.Inner.{found}
use Rattle.readers.specs.declared.Reader.{Reader}
use Rattle.readers.proofs.Laws.{none_read}
use Rattle.readers.proofs.Readers.{none_off_screen}

pub record Seeking (c : Chain) (seen : Option Seen) (head : Head) (row : ℕ) : Type 0 where
  pub comes : Some head ≡ ahead_of c row
  pub search_left : first_reader c seen ≡ first_that (λ r. row_reads c seen (row_at c r)) row (rows - row)

pub seek_begins : (c : Chain) (seen : Option Seen) → Seeking c seen first 0
unfolding ahead_of
seek_begins c seen = record { comes = refl; search_left = refl }

none_found : (c : Chain) (seen : Option Seen) → first_reader c seen ≡ rows → None ≡ found c seen
none_found c seen e = rw e

-- no row reads a byte of shared memory
pub none_of_shared : (c : Chain) (place : ℕ) {seen : Seen} → seen ≡ Shared place → None ≡ found c (Some seen)
none_of_shared c place e = rw e (none_found c (Some (Shared place)) (none_off_screen c (Some (Shared place)) tt))

-- after a dark row all are dark, and none reads
none_dark :
    (c : Chain) (seen : Option Seen) (n row : ℕ) → row_at c row ≡ DarkRow
    → first_that (λ r. row_reads c seen (row_at c r)) row n ≡ row + n
unfolding first_that row_at next screen_read attribute_read
none_dark c seen zero row dark = omega arith
none_dark c seen (suc n) row dark =
    rw (dark, none_read seen) (none_dark c seen n (row + 1) (rw (add-one row, dark)) ∙ omega arith)

module _ {c : Chain} {seen : Option Seen} {head : Head} {row : ℕ} (s : Seeking c seen head row) where
  is_row : row_at c row ≡ row_from c head
  is_row = sym (ahead_leads c row) ∙ ap (row_ahead c) (sym s.comes)

  abbrev here : Reader
  here = record { row = row; ahead = Some head }

  module _ (more : row < rows) where
    left : rows - row ≡ suc (rows - (row + 1))
    left = omega arith

    pub seek_ends : row_reads c seen (row_from c head) ≡ true → Some here ≡ found c seen
    unfolding first_that
    seek_ends h =
        let is : first_reader c seen ≡ row = s.search_left ∙ rw (left, is_row, h) in
        rw (is, lt-ltb row rows more, s.comes)

    pub seek_goes_on :
        {cells : ℕ} {to : Head} → row_from c head ≡ Whole head cells → row_reads c seen (Whole head cells) ≡ false
        → to ≡ link c.screen c.attribute (head.start + cells) → Seeking c seen to (row + 1)
    unfolding first_that ahead_of
    seek_goes_on whole h to =
        record {
          comes = rw (add-one row, is_row, whole, to);
          search_left = s.search_left ∙ rw (left, is_row, whole, h);
        }

    pub seek_torn :
        (b : Bool) → row_from c head ≡ Torn head → b ≡ row_reads c seen (Torn head) → then_some b here ≡ found c seen
    unfolding first_that next row_at
    seek_torn true torn h = seek_ends (rw torn (sym h))
    seek_torn false torn h =
        let dark : row_at c (row + 1) ≡ DarkRow = rw (add-one row, is_row, torn) in
        let none : first_reader c seen ≡ rows =
        s.search_left ∙ rw (left, is_row, torn, ← h) (none_dark c seen (rows - (row + 1)) (row + 1) dark ∙ omega arith) in
        none_found c seen none

  pub seek_fails : rows ≤ row → row ≤ rows → None ≡ found c seen
  unfolding first_that
  seek_fails all within =
      let none : rows - row ≡ 0 = omega arith in
      none_found c seen (s.search_left ∙ rw none (omega arith))
