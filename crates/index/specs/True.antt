-- Document 02, ticket 8: a store with a true index, one that is worked out from memory as it is. The picture may be
-- true or not.
use Rattle.std.specs.Prelude.{ℕ, ◌≡◌, List}
use Rattle.machine.specs.declared.Machine.{Machine}
use Rattle.picture.specs.Draw.{chain_of}
use Rattle.mending.specs.Store.{stored_with_picture, store_with_picture}
use Rattle.index.specs.Index.{index_of}
use Rattle.index.specs.Store.{store_with_index}

abbrev pub IsTrue : Machine → (screen attribute index : List ℕ) → Type 0
IsTrue m screen attribute index = index ≡ index_of (chain_of m screen attribute)

-- "With a true index the store's answer is the same as without one", and so is everything that it leaves
abbrev pub SameAsWithout : Type 0
SameAsWithout =
    (m : Machine) (shared screen attribute picture index : List ℕ) (address byte : ℕ)
    → IsTrue m screen attribute index
    → let left = store_with_index m shared screen attribute picture index address byte in
    stored_with_picture left.answer left.shared left.screen left.attribute left.picture
    ≡ store_with_picture m shared screen attribute picture address byte

-- a true index stays true
abbrev pub StaysTrue : Type 0
StaysTrue =
    (m : Machine) (shared screen attribute picture index : List ℕ) (address byte : ℕ)
    → IsTrue m screen attribute index
    → let left = store_with_index m shared screen attribute picture index address byte in
    IsTrue m left.screen left.attribute left.index
