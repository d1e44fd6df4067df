-- The store's outcome: what the lengths tell, and what an accepted and a refused store leave.
use Prim.Native.Nat.{ℕ, ◌<◌}
use mathlib.Core.Path.{◌≡◌, refl, subst, sym, ap, ◌∙◌}
use mathlib.Core.List.{List}
use mathlib.Core.Bool.{Bool, true, false, cond, and-true, and-eq-true_iff}
use lib.ListN.{length}
use lib.Dec.{ltb, eqb}
use borrow.Author.Tests.{eq-eqb, eqb-true, lt-ltb, ltb-true}
use Rattle.std.specs.Prelude.{Option, Some, None}
use Rattle.std.specs.Bool.{then_some}
use Rattle.lent.specs.Lengths.{shared_bytes, screen_bytes, attribute_bytes, picture_bytes, index_bytes}
use Rattle.lent.specs.Refusals.{accepted, refuses}
use Rattle.lent.proofs.Tests.{either}
use Rattle.machine.specs.declared.Machine.{Machine}
use Rattle.memories.specs.View8088.{seen_8088, refused_access, Stored8088, stored_8088, store_seen}
use Rattle.memories.specs.declared.view8088.Seen.{Seen}
use Rattle.memories.proofs.Laws.{accepted_right}
use Rattle.chain.specs.Chain.{Chain, rows}
use Rattle.picture.specs.Draw.{chain_of}
use Rattle.mending.specs.Mending.{mended, marks_of}
use Rattle.mending.specs.Store.{lengths_with_picture, refusal_with_picture}
use Rattle.mending.proofs.Outcome.{unchanged, accepts as picture_accepts, goes_on as goes_on_with_picture}
use Rattle.mending.proofs.Walk.{none_mended}
use Rattle.index.specs.Index.{entries}
use Rattle.index.specs.Store.{entry_in, first_in, renewed_entry, renewed, lengths_with_index, stored_with_index, refusal_with_index, refuse_with_index, mend_with_index, store_with_index}
use Rattle.index.specs.Inner.{row_named}
use Rattle.index.proofs.Index.{entries_length}

-- the lengths are those of the list where the test holds
pub lent_with_index :
    (shared screen attribute picture index : ℕ) → lengths_with_index shared screen attribute picture index ≡ true
    → (lengths_with_picture shared screen attribute picture ≡ true) × (eqb index index_bytes ≡ true)
unfolding lengths_with_index
lent_with_index shared screen attribute picture index =
    (and-eq-true_iff (lengths_with_picture shared screen attribute picture) (eqb index index_bytes)).0

-- the row that an index names, or that it names none
module _ (index : List ℕ) (seen : Option Seen) where
  abbrev entry : ℕ
  entry = entry_in index seen

  pub names_none : None ≡ row_named index seen → first_in index seen ≡ rows
  names_none e = go (ltb entry rows) e
    where
      go : (b : Bool) → None ≡ then_some b entry → cond b entry rows ≡ rows
      go true e = absurd cc
      go false e = refl

  pub names_one : (row : ℕ) → Some row ≡ row_named index seen → (first_in index seen ≡ row) × (row < rows)
  names_one row e = go (ltb entry rows) refl e
    where
      go : (b : Bool) → ltb entry rows ≡ b → Some row ≡ then_some b entry → (cond b entry rows ≡ row) × (row < rows)
      go true h e = let is : row ≡ entry = cc in (sym is, rw is (ltb-true entry rows h))
      go false h e = absurd cc

-- a renewed index is as long as it was
pub renewed_sized :
    (after : Chain) (f : ℕ) (index : List ℕ) → length index ≡ index_bytes → length (renewed after f index) ≡ index_bytes
renewed_sized after f index long =
    either (λ (one : List ℕ). length one ≡ index_bytes) (ltb f rows) _ _
    (λ _. entries_length (renewed_entry after f index) index_bytes) (λ _. long)

module _ (m : Machine) (shared screen attribute picture index : List ℕ) (address byte : ℕ) where
  abbrev refusal : ℕ
  refusal = refusal_with_index m shared screen attribute picture index address

  pub refused_outcome :
      refuses refusal ≡ true
      → store_with_index m shared screen attribute picture index address byte
      ≡ refuse_with_index refusal shared screen attribute picture index
  refused_outcome h = rw h

  pub mended_outcome :
      refuses refusal ≡ false
      → store_with_index m shared screen attribute picture index address byte
      ≡ mend_with_index m shared screen attribute picture index address byte
  mended_outcome h = rw h

  -- a store that is accepted has an index of the right length, and is accepted without one
  pub accepts :
      refuses refusal ≡ false
      → (length index ≡ index_bytes) × (refuses (refusal_with_picture m shared screen attribute picture address) ≡ false)
  accepts h =
      let right = (accepted_right m _ address h).0 in
      let lent =
      lent_with_index (length shared) (length screen) (length attribute) (length picture) (length index) right in (
        eqb-true (length index) index_bytes lent.1,
        subst (λ (b : Bool). refuses (refused_access m b address) ≡ false) (right ∙ sym lent.0) h,
      )

  -- with an index of the right length it is refused as it is without one
  pub refused_as_without : length index ≡ index_bytes → refusal ≡ refusal_with_picture m shared screen attribute picture address
  unfolding lengths_with_index
  refused_as_without long = rw (eq-eqb (length index) index_bytes long, and-true)

  -- a store with memories of the right lengths is accepted as its access is
  pub goes_on :
      length shared ≡ shared_bytes → length screen ≡ screen_bytes → length attribute ≡ attribute_bytes
      → length picture ≡ picture_bytes → length index ≡ index_bytes → accepted ≡ refused_access m true address
      → refuses refusal ≡ false
  goes_on a b d e f h = rw (refused_as_without f) (goes_on_with_picture m shared screen attribute picture address byte a b d e h)

  module _
      (seen : Option Seen)
      {shared' screen' attribute' : List ℕ}
      (on : refuses refusal ≡ false)
      (sees : seen ≡ seen_8088 address)
      (stored : stored_8088 accepted shared' screen' attribute' ≡ store_seen seen shared screen attribute byte) where
    left :
        (marks : ℕ) (picture' index' : List ℕ)
        → stored_with_index (record { refusal = accepted; marks = marks }) shared' screen' attribute' picture' index'
        ≡ (let after = store_seen (seen_8088 address) shared screen attribute byte in
        stored_with_index (record { refusal = accepted; marks = marks }) after.shared after.screen after.attribute picture' index')
    left marks picture' index' =
        rw (
          ap (λ (s : Stored8088). s.shared) stored,
          ap (λ (s : Stored8088). s.screen) stored,
          ap (λ (s : Stored8088). s.attribute) stored,
          sees,
        )
        refl

    -- no row is named
    pub none_named :
        None ≡ row_named index seen
        → stored_with_index (record { refusal = accepted; marks = 0 }) shared' screen' attribute' picture index
        ≡ store_with_index m shared screen attribute picture index address byte
    none_named none =
        let after = store_seen (seen_8088 address) shared screen attribute byte in
        let c : Chain = chain_of m after.screen after.attribute in
        let long = (picture_accepts m shared screen attribute picture address byte (accepts on).1).0 in
        let first : first_in index (seen_8088 address) ≡ rows = names_none index (seen_8088 address) (rw sees at none) in
        left 0 picture index ∙ sym (mended_outcome on ∙ rw (first, none_mended c picture long, unchanged picture))

    -- a row is named
    pub one_named :
        (row : ℕ) {marks : ℕ} {picture' index' : List ℕ} {after : Chain} → Some row ≡ row_named index seen
        → after ≡ chain_of m screen' attribute' → marks ≡ marks_of picture (mended after row picture)
        → picture' ≡ mended after row picture → index' ≡ entries (renewed_entry after row index) index_bytes
        → stored_with_index (record { refusal = accepted; marks = marks }) shared' screen' attribute' picture' index'
        ≡ store_with_index m shared screen attribute picture index address byte
    one_named row {marks} {picture'} {index'} one is told pictured numbered =
        let named = names_one index (seen_8088 address) row (rw sees at one) in
        let s = store_seen (seen_8088 address) shared screen attribute byte in
        let first : first_in index (seen_8088 address) ≡ row = named.0 in
        rw (
          told,
          pictured,
          numbered,
          is,
          ap (λ (s : Stored8088). s.shared) stored,
          ap (λ (s : Stored8088). s.screen) stored,
          ap (λ (s : Stored8088). s.attribute) stored,
          sees,
        )
        (sym (mended_outcome on ∙ rw (first, lt-ltb row rows named.1)))
