-- What an entry means, and what a store changes and marks: the statements of specs/Meaning.antt.
use Prim.Native.Nat.{ℕ, ◌≤◌, ◌<◌}
use mathlib.Core.Path.{◌≡◌, refl}
use mathlib.Core.List.{List}
use mathlib.Core.Bool.{Bool, true, false, cond}
use native.Mathlib.Omega.{arith}
use lib.Dec.{ltb}
use borrow.Author.Tests.{ltb-true, ltb-false}
use Rattle.std.specs.Prelude.{Option}
use Rattle.lent.specs.Lengths.{index_bytes}
use Rattle.lent.specs.Refusals.{refuses}
use Rattle.machine.specs.declared.Machine.{Machine}
use Rattle.memories.specs.View8088.{seen_8088}
use Rattle.memories.specs.declared.view8088.Seen.{Seen}
use Rattle.chain.specs.Chain.{Chain, rows, row_at}
use Rattle.picture.specs.Picture.{record_in}
use Rattle.readers.specs.Readers.{row_reads, first_reader}
use Rattle.readers.proofs.Readers.{is_first}
use Rattle.mending.specs.Mending.{marks_of}
use Rattle.mending.proofs.Changes.{exactly_the_changed, mend_leaves_ahead}
use Rattle.mending.proofs.Outcome.{unchanged, accepts as accepts_picture}
use Rattle.index.specs.Index.{no_row, entry_of, seen_at}
use Rattle.index.specs.Store.{first_in, refusal_with_index, StoredWithIndex, store_with_index}
use Rattle.index.specs.Meaning.{EntriesAreFirst, LeavesAheadOfNamed, MarksTheChangedToo}
use Rattle.index.proofs.Index.{entry_at}
use Rattle.index.proofs.Outcome.{refused_outcome, mended_outcome, accepts}

module _ (c : Chain) (seen : Option Seen) where
  abbrev reads : ℕ → Bool
  reads row = row_reads c seen (row_at c row)

  abbrev First : ℕ → Type 0
  First entry =
      (entry < rows → (reads entry ≡ true) × ((row : ℕ) → row < entry → reads row ≡ false))
      × (rows ≤ entry → (entry ≡ no_row) × ((row : ℕ) → row < rows → reads row ≡ false))

  entry_is_first : First (entry_of c seen)
  entry_is_first = go (ltb (first_reader c seen) rows) refl
    where
      go : (b : Bool) → ltb (first_reader c seen) rows ≡ b → First (cond b (first_reader c seen) no_row)
      go true e =
          let under = ltb-true (first_reader c seen) rows e in
          (λ h. ((is_first c seen).1.0 h, (is_first c seen).1.1), λ h. absurd (omega arith))
      go false e =
          let over = ltb-false (first_reader c seen) rows e in
          (λ h. absurd (omega arith), λ h. (refl, λ row under. (is_first c seen).1.1 row (omega arith)))

pub entries_are_first : EntriesAreFirst
entries_are_first c at h =
    rw (entry_at (λ one. entry_of c (seen_at one)) index_bytes at no_row h) (entry_is_first c (seen_at at))

module _ (m : Machine) (shared screen attribute picture index : List ℕ) (address byte : ℕ) where
  abbrev left : StoredWithIndex
  left = store_with_index m shared screen attribute picture index address byte

  abbrev test : Bool
  test = refuses (refusal_with_index m shared screen attribute picture index address)

  -- the marks are those of the pictures before and after, of a refused store too
  pub marks_of_lem : (b : Bool) → test ≡ b → left.answer.marks ≡ marks_of picture left.picture
  marks_of_lem true h = rw (refused_outcome m shared screen attribute picture index address byte h, unchanged picture)
  marks_of_lem false h = rw (mended_outcome m shared screen attribute picture index address byte h)

  stays :
      (b : Bool) → test ≡ b → (row : ℕ) → row < rows → row < first_in index (seen_8088 address)
      → record_in left.picture row ≡ record_in picture row
  stays true h row more ahead = rw (refused_outcome m shared screen attribute picture index address byte h)
  stays false h row more ahead =
      let too = (accepts m shared screen attribute picture index address byte h).1 in
      rw (mended_outcome m shared screen attribute picture index address byte h)
      (mend_leaves_ahead (first_in index (seen_8088 address)) m shared screen attribute picture address byte
      (accepts_picture m shared screen attribute picture address byte too).0 row more ahead)

pub leaves_ahead_of_named : LeavesAheadOfNamed
leaves_ahead_of_named m shared screen attribute picture index address byte =
    stays m shared screen attribute picture index address byte
    (test m shared screen attribute picture index address byte) refl

pub marks_the_changed_too : MarksTheChangedToo
marks_the_changed_too m shared screen attribute picture index address byte =
    exactly_the_changed picture (left m shared screen attribute picture index address byte).picture
    (marks_of_lem m shared screen attribute picture index address byte
    (test m shared screen attribute picture index address byte) refl)
