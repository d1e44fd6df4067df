-- The store's outcome: what the lengths tell, that the walk before the store comes to f as the walk after it does, and
-- what the steps of an accepted store leave.
use Prim.Native.Nat.{ℕ}
use mathlib.Core.Path.{◌≡◌, refl, subst, sym, ap, ◌∙◌}
use mathlib.Core.List.{List}
use mathlib.Core.Bool.{Bool, true, false, and-eq-true_iff}
use native.Mathlib.Omega.{arith}
use lib.ListN.{length}
use lib.Dec.{eqb}
use borrow.Author.Tests.{eqb-true}
use Rattle.std.specs.Prelude.{Option, Some, None}
use Rattle.lent.specs.Lengths.{shared_bytes, screen_bytes, attribute_bytes, picture_bytes}
use Rattle.lent.specs.Refusals.{accepted, refuses}
use Rattle.machine.specs.declared.Machine.{Machine}
use Rattle.memories.specs.View8088.{lengths_8088, seen_8088, refused_access, refusal_8088, Stored8088, stored_8088, store_seen}
use Rattle.memories.specs.declared.view8088.Seen.{Seen}
use Rattle.memories.proofs.Laws.{accepted_right}
use Rattle.chain.specs.Chain.{Chain, rows, row_at}
use Rattle.chain.specs.Inner.{ahead_of}
use Rattle.chain.proofs.Alike.{rows_are_what_they_read}
use Rattle.picture.specs.Picture.{record_in}
use Rattle.marks.proofs.Laws.{none_marked}
use Rattle.readers.specs.Readers.{first_reader}
use Rattle.readers.specs.Inner.{found}
use Rattle.readers.specs.Stored.{chain_stored}
use Rattle.readers.specs.declared.Reader.{Reader}
use Rattle.readers.proofs.Readers.{is_first, reader_found, none_reads}
use Rattle.readers.proofs.Stored.{unread_leaves}
use Rattle.mending.proofs.Walk.{none_mended}
use Rattle.picture.specs.Draw.{chain_of}
use Rattle.mending.specs.Mending.{changed, marks_of}
use Rattle.mending.specs.Store.{lengths_with_picture, stored_with_picture, refusal_with_picture, refuse_with_picture, mend_with_picture, store_with_picture}
use Rattle.mending.proofs.Laws.{same_self}

-- the lengths are those of the list where the test holds
pub lent_with_picture :
    (shared screen attribute picture : ℕ) → lengths_with_picture shared screen attribute picture ≡ true
    → (lengths_8088 shared screen attribute ≡ true) × (eqb picture picture_bytes ≡ true)
unfolding lengths_with_picture
lent_with_picture shared screen attribute picture =
    (and-eq-true_iff (lengths_8088 shared screen attribute) (eqb picture picture_bytes)).0

-- the walk after the store comes to f as the walk before it did
comes_after :
    (c : Chain) (seen : Option Seen) (byte : ℕ) (shared : List ℕ) (reader : Reader) → Some reader ≡ found c seen
    → reader.ahead ≡ ahead_of (chain_stored c seen byte shared) reader.row
comes_after c seen byte shared reader e =
    let d = chain_stored c seen byte shared in
    let unread = (is_first c seen).1.1 in
    let here = reader_found c seen reader e in
    here.1.1
    ∙ sym (rows_are_what_they_read c d reader.row
    (λ row h. unread_leaves c seen byte shared (row_at c row) (unread row (omega (arith, here.0))))).0

pub comes_stored :
    (m : Machine) (seen : Option Seen) (reader : Reader) (shared screen attribute : List ℕ) (byte : ℕ)
    {shared' screen' attribute' : List ℕ} {before after : Chain} → before ≡ chain_of m screen attribute
    → after ≡ chain_of m screen' attribute'
    → stored_8088 accepted shared' screen' attribute' ≡ store_seen seen shared screen attribute byte
    → Some reader ≡ found before seen → reader.ahead ≡ ahead_of after reader.row
comes_stored m seen reader shared screen attribute byte was is stored e =
    rw (is, ap (λ (s : Stored8088). s.screen) stored, ap (λ (s : Stored8088). s.attribute) stored)
    (comes_after (chain_of m screen attribute) seen byte shared reader (rw was at e))

-- a picture that stays has no marks
pub unchanged : (picture : List ℕ) → marks_of picture picture ≡ 0
unchanged picture = none_marked (changed picture picture) rows (λ row h. rw (same_self (record_in picture row)))

module _ (m : Machine) (shared screen attribute picture : List ℕ) (address byte : ℕ) where
  abbrev refusal : ℕ
  refusal = refusal_with_picture m shared screen attribute picture address

  pub refused_outcome :
      refuses refusal ≡ true
      → store_with_picture m shared screen attribute picture address byte ≡ refuse_with_picture refusal shared screen attribute picture
  refused_outcome h = rw h

  pub mended_outcome :
      refuses refusal ≡ false
      → store_with_picture m shared screen attribute picture address byte ≡ mend_with_picture m shared screen attribute picture address byte
  mended_outcome h = rw h

  -- a store that is accepted has a picture of the right length, and is an access that is accepted
  pub accepts : refuses refusal ≡ false → (length picture ≡ picture_bytes) × (refuses (refusal_8088 m shared screen attribute address) ≡ false)
  accepts h =
      let right = (accepted_right m _ address h).0 in
      let lent = lent_with_picture (length shared) (length screen) (length attribute) (length picture) right in (
        eqb-true (length picture) picture_bytes lent.1,
        subst (λ (b : Bool). refuses (refused_access m b address) ≡ false) (right ∙ sym lent.0) h,
      )

  -- a store with memories of the right lengths is accepted as its access is
  pub goes_on :
      length shared ≡ shared_bytes → length screen ≡ screen_bytes → length attribute ≡ attribute_bytes
      → length picture ≡ picture_bytes → accepted ≡ refused_access m true address → refuses refusal ≡ false
  unfolding lengths_with_picture lengths_8088
  goes_on a b d e h = rw (a, b, d, e, ← h) refl

  -- what the steps of the code left, where no row reads the byte
  pub none_stored :
      (seen : Option Seen) {before : Chain} {shared' screen' attribute' : List ℕ} → refuses refusal ≡ false
      → before ≡ chain_of m screen attribute → seen ≡ seen_8088 address → None ≡ found before seen
      → stored_8088 accepted shared' screen' attribute' ≡ store_seen seen shared screen attribute byte
      → stored_with_picture (record { refusal = accepted; marks = 0 }) shared' screen' attribute' picture
      ≡ store_with_picture m shared screen attribute picture address byte
  none_stored seen on was sees none stored =
      let after = store_seen (seen_8088 address) shared screen attribute byte in
      let stays = none_mended (chain_of m after.screen after.attribute) picture (accepts on).0 in
      let first : first_reader (chain_of m screen attribute) (seen_8088 address) ≡ rows =
      none_reads (chain_of m screen attribute) (seen_8088 address) (rw (was, sees) at none) in
      let left : stored_8088 accepted _ _ _ ≡ store_seen (seen_8088 address) shared screen attribute byte = rw sees at stored in
      rw (
        ap (λ (s : Stored8088). s.shared) left,
        ap (λ (s : Stored8088). s.screen) left,
        ap (λ (s : Stored8088). s.attribute) left,
        mended_outcome on,
        first,
        stays,
        unchanged picture,
      )
      refl
