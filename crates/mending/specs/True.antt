-- What a store does to a true picture, one that a fresh drawing would give.
use Rattle.std.specs.Prelude.{ℕ, ◌%◌, ◌<◌, ◌≡◌, List, true, false, length, get_or, Some, Some}
use Rattle.lent.specs.Answer.{byte_read}
use Rattle.machine.specs.declared.Machine.{Machine}
use Rattle.memories.specs.View8088.{seen_8088, read_8088}
use Rattle.memories.specs.declared.view8088.Seen.TheVariants.{Screen, Attribute}
use Rattle.chain.specs.Chain.{rows, row_at}
use Rattle.chain.specs.Alike.{read_ahead_of_high}
use Rattle.picture.specs.Picture.{picture_of}
use Rattle.picture.specs.Draw.{chain_of}
use Rattle.readers.specs.Readers.{among}
use Rattle.mending.specs.Mending.{marks_of}
use Rattle.mending.specs.Store.{lengths_with_picture, store_with_picture}

-- buffers of the right lengths, and the picture of the memories
pub record TruePicture (m : Machine) (shared screen attribute picture : List ℕ) : Type 0 where
  pub lengths : lengths_with_picture (length shared) (length screen) (length attribute) (length picture) ≡ true
  pub fresh : picture ≡ picture_of (chain_of m screen attribute)

-- it stays true
abbrev pub KeepsTrue : Type 0
KeepsTrue =
    (m : Machine) (shared screen attribute picture : List ℕ) (address byte : ℕ)
    → TruePicture m shared screen attribute picture
    → let left = store_with_picture m shared screen attribute picture address byte in
    TruePicture m left.shared left.screen left.attribute left.picture

-- its marks are the rows in which the fresh pictures before and after differ
abbrev pub MarksFresh : Type 0
MarksFresh =
    (m : Machine) (shared screen attribute picture : List ℕ) (address byte : ℕ)
    → TruePicture m shared screen attribute picture
    → let left = store_with_picture m shared screen attribute picture address byte in
    left.answer.marks
    ≡ marks_of (picture_of (chain_of m screen attribute)) (picture_of (chain_of m left.screen left.attribute))

-- a store of the byte that stands there marks nothing
abbrev pub SameByteMarksNothing : Type 0
SameByteMarksNothing =
    (m : Machine) (shared screen attribute picture : List ℕ) (address byte : ℕ)
    → TruePicture m shared screen attribute picture → read_8088 m shared screen attribute address ≡ byte_read byte
    → (store_with_picture m shared screen attribute picture address byte).answer.marks ≡ 0

-- a store that changes bits 4 to 7 of an attribute alone marks nothing, beside a cell or anywhere
abbrev pub UpperBitsMarkNothing : Type 0
UpperBitsMarkNothing =
    (m : Machine) (shared screen attribute picture : List ℕ) (address byte place : ℕ)
    → TruePicture m shared screen attribute picture → seen_8088 address ≡ Some (Attribute place)
    → byte % 16 ≡ get_or attribute place 0 % 16
    → (store_with_picture m shared screen attribute picture address byte).answer.marks ≡ 0

-- a store that changes the top four bits alone of a byte that rows read only as the high byte of their link marks
-- nothing: they "play no part", and 02, ticket 1, says that "marks .. stay"
abbrev pub TopBitsMarkNothing : Type 0
TopBitsMarkNothing =
    (m : Machine) (shared screen attribute picture : List ℕ) (address byte place : ℕ)
    → TruePicture m shared screen attribute picture → seen_8088 address ≡ Some (Screen place)
    → byte % 16 ≡ get_or screen place 0 % 16
    → let c = chain_of m screen attribute in
    ((row : ℕ) → row < rows → among place (read_ahead_of_high c (row_at c row)) ≡ false)
    → (store_with_picture m shared screen attribute picture address byte).answer.marks ≡ 0
