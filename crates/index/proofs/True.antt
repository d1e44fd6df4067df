-- A store with a true index: the statements of specs/True.antt.
use Prim.Native.Nat.{ℕ, ◌+◌, ◌-◌, ◌<◌}
use mathlib.Core.Path.{◌≡◌, refl, sym, ◌∙◌}
use mathlib.Core.List.{List}
use mathlib.Core.Bool.{Bool, true, false, cond, true≢false}
use native.Mathlib.Omega.{arith}
use lib.ListN.{get_or}
use lib.Dec.{ltb}
use borrow.Author.Tests.{lt-ltb, le-ltb, ltb-true, ltb-false}
use Rattle.std.specs.Prelude.{Option, Some, None}
use Rattle.lent.specs.Lengths.{screen_bytes, index_bytes}
use Rattle.lent.specs.Refusals.{refuses}
use Rattle.machine.specs.declared.Machine.{Machine}
use Rattle.memories.specs.View8088.{seen_8088}
use Rattle.memories.specs.declared.view8088.Seen.{Seen}
use Rattle.memories.specs.declared.view8088.Seen.TheVariants.{Shared, Screen, Attribute}
use Rattle.memories.proofs.Laws.{Lies, placed}
use Rattle.chain.specs.Chain.{Chain, rows, row_at}
use Rattle.chain.proofs.First.{same_first}
use Rattle.picture.specs.Draw.{chain_of}
use Rattle.readers.specs.Readers.{row_reads, first_reader}
use Rattle.readers.specs.Stored.{chain_stored}
use Rattle.readers.proofs.Readers.{none_off_screen, is_first}
use Rattle.readers.proofs.Stored.{reads_alike}
use Rattle.mending.specs.Store.{stored_with_picture, refusal_with_picture, store_with_picture}
use Rattle.index.specs.Index.{no_row, entry_of, seen_at, entries, index_of}
use Rattle.index.specs.Store.{first_in, renewed_entry, renewed, refusal_with_index, StoredWithIndex, store_with_index}
use Rattle.index.specs.True.{IsTrue, SameAsWithout, StaysTrue}
use Rattle.index.proofs.Index.{entries_length, entry_at, are_entries}
use Rattle.index.proofs.Outcome.{refused_as_without}

same_entries : (f g : ℕ → ℕ) (n : ℕ) → ((at : ℕ) → at < n → f at ≡ g at) → entries f n ≡ entries g n
same_entries f g n same =
    are_entries (entries f n) g n (entries_length f n) (λ at h. entry_at f n at 0 h ∙ same at h)

module _ (c : Chain) where
  -- the row that an entry names is the first reader
  names : (seen : Option Seen) → let entry = entry_of c seen in cond (ltb entry rows) entry rows ≡ first_reader c seen
  names seen = go (ltb (first_reader c seen) rows) refl
    where
      f : ℕ
      f = first_reader c seen

      go : (b : Bool) → ltb f rows ≡ b → let entry = cond b f no_row in cond (ltb entry rows) entry rows ≡ f
      go true e = rw e
      go false e = omega (arith, ltb-false f rows e, (is_first c seen).0)

  true_entry : (at : ℕ) → at < index_bytes → get_or (index_of c) at no_row ≡ entry_of c (seen_at at)
  true_entry at = entry_at (λ one. entry_of c (seen_at one)) index_bytes at no_row

  true_row : (address : ℕ) (seen : Option Seen) → Lies address seen → first_in (index_of c) seen ≡ first_reader c seen
  true_row address (Some (Shared place)) lies = sym (none_off_screen c (Some (Shared place)) tt)
  true_row address (Some (Screen place)) lies =
      rw (true_entry place (omega (arith, lies.0)), lt-ltb place screen_bytes lies.0) (names (Some (Screen place)))
  true_row address (Some (Attribute place)) lies =
      let back : screen_bytes + place - screen_bytes ≡ place = omega arith in
      rw (true_entry (screen_bytes + place) (omega (arith, lies.0)), le-ltb (screen_bytes + place) screen_bytes (omega arith), back)
      (names (Some (Attribute place)))
  true_row address None lies = sym (none_off_screen c None tt)

-- so a true index names the first reader of what the 8088 sees
pub names_the_first :
    (m : Machine) (screen attribute index : List ℕ) (address : ℕ) → IsTrue m screen attribute index
    → first_in index (seen_8088 address) ≡ first_reader (chain_of m screen attribute) (seen_8088 address)
names_the_first m screen attribute index address is_true =
    rw is_true (true_row (chain_of m screen attribute) address (seen_8088 address) (placed address refl refl))

module _ (c : Chain) (seen : Option Seen) (byte : ℕ) (shared : List ℕ) where
  abbrev after : Chain
  after = chain_stored c seen byte shared

  abbrev f : ℕ
  f = first_reader c seen

  -- what a row ahead of f reads first, it reads first after the store too
  same_under : (one : Option Seen) → first_reader c one < f → first_reader after one ≡ first_reader c one
  same_under one under =
      let within = (is_first c seen).0 in
      let before = (is_first c one).1 in
      let now = (is_first after one).1 in
      let alike = reads_alike c seen byte shared one in
      let no_later : (first_reader c one < first_reader after one → ⊥) =
      λ less. true≢false (sym (before.0 (omega arith)) ∙ sym (alike (first_reader c one) under) ∙ now.1 (first_reader c one) less) in
      let no_earlier : (first_reader after one < first_reader c one → ⊥) =
      λ less. true≢false
      (sym (now.0 (omega arith)) ∙ alike (first_reader after one) (omega arith) ∙ before.1 (first_reader after one) less) in
      omega (arith, no_later, no_earlier)

  -- where no row reads the byte, each other is first read by the row that it was
  same_all : f ≡ rows → (one : Option Seen) → first_reader after one ≡ first_reader c one
  same_all none one =
      same_first (λ row. row_reads after one (row_at after row)) (λ row. row_reads c one (row_at c row)) 0 rows
      (λ row _ h. reads_alike c seen byte shared one row (omega arith))

  same_entry : (one : Option Seen) → first_reader after one ≡ first_reader c one → entry_of c one ≡ entry_of after one
  same_entry one same = rw same

  stays_or_new :
      (one : Option Seen) (b : Bool) → ltb (entry_of c one) f ≡ b → cond b (entry_of c one) (entry_of after one) ≡ entry_of after one
  stays_or_new one true e =
      let under = ltb-true (entry_of c one) f e in
      let named : entry_of c one < rows = omega (arith, (is_first c seen).0) in
      let is : entry_of c one ≡ first_reader c one = rw (lt-ltb (entry_of c one) rows named) at (names c one) in
      same_entry one (same_under one (omega arith))
  stays_or_new one false e = refl

  renewed_true : renewed after f (index_of c) ≡ index_of after
  renewed_true = go (ltb f rows) refl
    where
      go :
          (b : Bool) → ltb f rows ≡ b
          → cond b (entries (renewed_entry after f (index_of c)) index_bytes) (index_of c) ≡ index_of after
      go true e =
          same_entries (renewed_entry after f (index_of c)) (λ at. entry_of after (seen_at at)) index_bytes
          (λ at h. rw (true_entry c at h) (stays_or_new (seen_at at) (ltb (entry_of c (seen_at at)) f) refl))
      go false e =
          let none : f ≡ rows = omega (arith, ltb-false f rows e, (is_first c seen).0) in
          same_entries (λ at. entry_of c (seen_at at)) (λ at. entry_of after (seen_at at)) index_bytes
          (λ at h. same_entry (seen_at at) (same_all none (seen_at at)))

module _
    (m : Machine)
    (shared screen attribute picture index : List ℕ)
    (address byte : ℕ)
    (is_true : IsTrue m screen attribute index) where
  abbrev before : Chain
  before = chain_of m screen attribute

  abbrev left : StoredWithIndex
  left = store_with_index m shared screen attribute picture index address byte

  abbrev test : Bool
  test = refuses (refusal_with_picture m shared screen attribute picture address)

  same_row : first_in index (seen_8088 address) ≡ first_reader before (seen_8088 address)
  same_row = names_the_first m screen attribute index address is_true

  same_refusal :
      refusal_with_index m shared screen attribute picture index address
      ≡ refusal_with_picture m shared screen attribute picture address
  same_refusal =
      refused_as_without m shared screen attribute picture index address byte
      (rw is_true (entries_length (λ at. entry_of before (seen_at at)) index_bytes))

  abbrev Same : StoredWithIndex → Type 0
  Same one =
      stored_with_picture one.answer one.shared one.screen one.attribute one.picture
      ≡ store_with_picture m shared screen attribute picture address byte

  same : (b : Bool) → test ≡ b → Same left
  same true h = rw (same_refusal, h)
  same false h = rw (same_refusal, h, same_row)

  stays : (b : Bool) → test ≡ b → IsTrue m left.screen left.attribute left.index
  stays true h = rw (same_refusal, h) is_true
  stays false h =
      rw (same_refusal, h, same_row, is_true) (renewed_true before (seen_8088 address) byte shared)

pub same_as_without : SameAsWithout
same_as_without m shared screen attribute picture index address byte is_true =
    same m shared screen attribute picture index address byte is_true
    (test m shared screen attribute picture index address byte is_true) refl

pub stays_true : StaysTrue
stays_true m shared screen attribute picture index address byte is_true =
    stays m shared screen attribute picture index address byte is_true
    (test m shared screen attribute picture index address byte is_true) refl
