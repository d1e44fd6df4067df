-- Document 01, "The picture": "A store of a byte by the 8088 with a picture lent".
use Rattle.std.specs.Prelude.{ℕ, List, Bool, Result, Ok, Err, if◌then◌else◌, ◌&&◌, length, ◌==◌}
use Rattle.lent.specs.Lengths.{picture_bytes}
use Rattle.lent.specs.Refusals.{accepted, refuses, number_of}
use Rattle.lent.specs.declared.refusals.Refusal.{Refusal}
use Rattle.machine.specs.declared.Machine.{Machine}
use Rattle.memories.specs.View8088.{lengths_8088, seen_8088, refused_access, store_seen}
use Rattle.picture.specs.Draw.{chain_of}
use Rattle.readers.specs.Readers.{first_reader}
use Rattle.mending.specs.Mending.{mended, marks_of}
use Rattle.mending.specs.declared.Stored.{Stored}

-- the four lengths are those of the list
unfoldable pub lengths_with_picture : ℕ → ℕ → ℕ → ℕ → Bool
lengths_with_picture shared screen attribute picture = lengths_8088 shared screen attribute && picture == picture_bytes

-- the numbers of what a store answers: its marks, or a refusal, which has none
abbrev pub store_answered : Result ℕ Refusal → Stored
store_answered (Ok marks) = record { refusal = accepted; marks = marks }
store_answered (Err refusal) = record { refusal = number_of refusal; marks = 0 }

-- what the store leaves: its answer, the three memories and the picture
pub record StoredWithPicture : Type 0 where
  pub answer : Stored
  pub shared : List ℕ
  pub screen : List ℕ
  pub attribute : List ℕ
  pub picture : List ℕ

abbrev pub stored_with_picture : Stored → (shared screen attribute picture : List ℕ) → StoredWithPicture
stored_with_picture answer shared screen attribute picture =
    record { answer = answer; shared = shared; screen = screen; attribute = attribute; picture = picture }

-- by what the store is refused: as any access of the 8088 is, with four lengths
abbrev pub refusal_with_picture : Machine → (shared screen attribute picture : List ℕ) → (address : ℕ) → ℕ
refusal_with_picture m shared screen attribute picture address =
    refused_access m (lengths_with_picture (length shared) (length screen) (length attribute) (length picture)) address

-- a refusal has no marks, and "all buffers .. stay"
abbrev pub refuse_with_picture : (refusal : ℕ) → (shared screen attribute picture : List ℕ) → StoredWithPicture
refuse_with_picture refusal = stored_with_picture (record { refusal = refusal; marks = 0 })

-- "The byte is stored. Records before f stay; records from f on become those of the walk after the store."
abbrev pub mend_from :
    (f : ℕ) → Machine → (shared screen attribute picture : List ℕ) → (address byte : ℕ) → StoredWithPicture
mend_from f m shared screen attribute picture address byte =
    let left = store_seen (seen_8088 address) shared screen attribute byte in
    let new = mended (chain_of m left.screen left.attribute) f picture in
    stored_with_picture
    (record { refusal = accepted; marks = marks_of picture new })
    left.shared left.screen left.attribute new

-- "Let f be the first row that reads the stored byte, by the walk of memory before the store."
abbrev pub mend_with_picture :
    Machine → (shared screen attribute picture : List ℕ) → (address byte : ℕ) → StoredWithPicture
mend_with_picture m shared screen attribute picture address byte =
    mend_from (first_reader (chain_of m screen attribute) (seen_8088 address)) m
    shared screen attribute picture address byte

abbrev pub store_with_picture :
    Machine → (shared screen attribute picture : List ℕ) → (address byte : ℕ) → StoredWithPicture
store_with_picture m shared screen attribute picture address byte =
    let refusal = refusal_with_picture m shared screen attribute picture address in
    if refuses refusal then refuse_with_picture refusal shared screen attribute picture
    else mend_with_picture m shared screen attribute picture address byte
