-- What changes and what is marked: the statements of specs/Changes.antt, and the laws that they share with a store that
-- takes its first row from elsewhere.
use Prim.Native.Nat.{ℕ, ◌≤◌, ◌<◌}
use mathlib.Core.Path.{◌≡◌, refl, sym, ap, ◌∙◌}
use mathlib.Core.List.{List}
use mathlib.Core.Bool.{Bool, true, false, not, ◌&&◌, true≢false}
use lib.ListN.{length}
use lib.Dec.{ltb}
use Rattle.std.specs.Str.{bytes_eq}
use Rattle.std.proofs.lemmas.Slice.Eq.{bytes_eq-Decides}
use borrow.Author.Tests.{lt-ltb, le-ltb, not-true, not-false}
use Rattle.lent.specs.Lengths.{picture_bytes}
use Rattle.lent.specs.Refusals.{refuses}
use Rattle.machine.specs.declared.Machine.{Machine}
use Rattle.memories.specs.View8088.{seen_8088, store_seen}
use Rattle.chain.specs.Chain.{rows}
use Rattle.picture.specs.Picture.{record_in}
use Rattle.picture.specs.Draw.{chain_of}
use Rattle.picture.proofs.Laws.{columns_fit}
use Rattle.marks.specs.Marks.{bit_set}
use Rattle.marks.proofs.Marks.{bit_by_bit}
use Rattle.readers.specs.Readers.{first_reader}
use Rattle.mending.specs.Mending.{changed, marks_of}
use Rattle.mending.specs.Store.{StoredWithPicture, refusal_with_picture, mend_from, store_with_picture}
use Rattle.mending.specs.Changes.{LeavesAhead, MarksTheChanged}
use Rattle.mending.proofs.Laws.{same_self, record_stays}
use Rattle.mending.proofs.Outcome.{unchanged, accepts, refused_outcome, mended_outcome}

-- marks that are those of a picture before and after mark a row exactly when its record changed, and never a bit that is
-- no row's
module _ (before after : List ℕ) {marks : ℕ} (told : marks ≡ marks_of before after) (row : ℕ) where
  marked_as : bit_set marks row ≡ (ltb row rows && changed before after row)
  marked_as = rw told (bit_by_bit (changed before after) rows row)

  abbrev old : List ℕ
  old = record_in before row

  abbrev new : List ℕ
  new = record_in after row

  pub exactly_the_changed :
      (row < rows → bit_set marks row ≡ true → new ≡ old → ⊥)
      × ((row < rows → bit_set marks row ≡ false → new ≡ old) × (rows ≤ row → bit_set marks row ≡ false))
  exactly_the_changed = (
    λ under is same.
        let changes : not (bytes_eq old new) ≡ true = rw (marked_as, lt-ltb row rows under) at is in
        true≢false (sym (same_self old) ∙ ap (bytes_eq old) (sym same) ∙ not-true (bytes_eq old new) changes),
    (
      λ under is. sym ((bytes_eq-Decides old new).0 (not-false (bytes_eq old new) (rw (marked_as, lt-ltb row rows under) at is))),
      λ over. rw (marked_as, le-ltb row rows over),
    ),
  )

-- mending from any row leaves the records ahead of it
pub mend_leaves_ahead :
    (f : ℕ) (m : Machine) (shared screen attribute picture : List ℕ) (address byte : ℕ) → length picture ≡ picture_bytes
    → (row : ℕ) → row < rows → row < f
    → record_in (mend_from f m shared screen attribute picture address byte).picture row ≡ record_in picture row
mend_leaves_ahead f m shared screen attribute picture address byte long =
    let after = store_seen (seen_8088 address) shared screen attribute byte in
    record_stays (chain_of m after.screen after.attribute) f picture (columns_fit m) long

module _ (m : Machine) (shared screen attribute picture : List ℕ) (address byte : ℕ) where
  abbrev left : StoredWithPicture
  left = store_with_picture m shared screen attribute picture address byte

  abbrev test : Bool
  test = refuses (refusal_with_picture m shared screen attribute picture address)

  -- the marks are those of the pictures before and after, of a refused store too
  pub marks_of_lem : (b : Bool) → test ≡ b → left.answer.marks ≡ marks_of picture left.picture
  marks_of_lem true h = rw (refused_outcome m shared screen attribute picture address byte h, unchanged picture)
  marks_of_lem false h = rw (mended_outcome m shared screen attribute picture address byte h)

  stays :
      (b : Bool) → test ≡ b → (row : ℕ) → row < rows → row < first_reader (chain_of m screen attribute) (seen_8088 address)
      → record_in left.picture row ≡ record_in picture row
  stays true h row more ahead = rw (refused_outcome m shared screen attribute picture address byte h)
  stays false h row more ahead =
      rw (mended_outcome m shared screen attribute picture address byte h)
      (mend_leaves_ahead (first_reader (chain_of m screen attribute) (seen_8088 address)) m shared screen attribute picture address byte
      (accepts m shared screen attribute picture address byte h).0 row more ahead)

pub leaves_ahead : LeavesAhead
leaves_ahead m shared screen attribute picture address byte =
    stays m shared screen attribute picture address byte (test m shared screen attribute picture address byte) refl

pub marks_the_changed : MarksTheChanged
marks_the_changed m shared screen attribute picture address byte =
    exactly_the_changed picture (left m shared screen attribute picture address byte).picture
    (marks_of_lem m shared screen attribute picture address byte (test m shared screen attribute picture address byte) refl)
