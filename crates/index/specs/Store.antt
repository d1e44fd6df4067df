-- Document 02, ticket 8: "A store with an index lent, true or not".
use Rattle.std.specs.Prelude.{ℕ, ◌+◌, List, Bool, if◌then◌else◌, ◌&&◌, length, get_or, ◌==◌, nat_lt, Option, Some, None}
use Rattle.lent.specs.Lengths.{screen_bytes, index_bytes}
use Rattle.lent.specs.Refusals.{refuses}
use Rattle.machine.specs.declared.Machine.{Machine}
use Rattle.memories.specs.View8088.{seen_8088, refused_access}
use Rattle.memories.specs.declared.view8088.Seen.{Seen}
use Rattle.memories.specs.declared.view8088.Seen.TheVariants.{Shared, Screen, Attribute}
use Rattle.chain.specs.Chain.{Chain, rows}
use Rattle.picture.specs.Draw.{chain_of}
use Rattle.mending.specs.Store.{lengths_with_picture, mend_from}
use Rattle.mending.specs.declared.Stored.{Stored}
use Rattle.index.specs.Index.{no_row, entry_of, seen_at, entries}

-- the entry for the byte that the 8088 sees. A byte of shared memory has none, so that no row reads it
abbrev pub entry_in : (index : List ℕ) → Option Seen → ℕ
entry_in index (Some (Shared place)) = no_row
entry_in index (Some (Screen place)) = get_or index place no_row
entry_in index (Some (Attribute place)) = get_or index (screen_bytes + place) no_row
entry_in index None = no_row

-- "takes f from it and not from the walk, over 24 being no row": the number after the last, as of the walk
abbrev pub first_in : (index : List ℕ) → Option Seen → ℕ
first_in index seen = let entry = entry_in index seen in if nat_lt entry rows then entry else rows

-- "Entries under f stay, the others become those of the memory after the store"
abbrev pub renewed_entry : Chain → (f : ℕ) → (index : List ℕ) → (at : ℕ) → ℕ
renewed_entry after f index at =
    let entry = get_or index at no_row in
    if nat_lt entry f then entry else entry_of after (seen_at at)

-- "with no row all stay"
abbrev pub renewed : Chain → (f : ℕ) → (index : List ℕ) → List ℕ
renewed after f index = if nat_lt f rows then entries (renewed_entry after f index) index_bytes else index

-- the five lengths are those of the list
unfoldable pub lengths_with_index : ℕ → ℕ → ℕ → ℕ → ℕ → Bool
lengths_with_index shared screen attribute picture index =
    lengths_with_picture shared screen attribute picture && index == index_bytes

-- what the store leaves: its answer, the three memories, the picture and the index
pub record StoredWithIndex : Type 0 where
  pub answer : Stored
  pub shared : List ℕ
  pub screen : List ℕ
  pub attribute : List ℕ
  pub picture : List ℕ
  pub index : List ℕ

abbrev pub stored_with_index : Stored → (shared screen attribute picture index : List ℕ) → StoredWithIndex
stored_with_index answer shared screen attribute picture index =
    record {
      answer = answer;
      shared = shared;
      screen = screen;
      attribute = attribute;
      picture = picture;
      index = index;
    }

-- by what the store is refused: as any access of the 8088 is, with five lengths
abbrev pub refusal_with_index : Machine → (shared screen attribute picture index : List ℕ) → (address : ℕ) → ℕ
refusal_with_index m shared screen attribute picture index address =
    refused_access m
    (lengths_with_index (length shared) (length screen) (length attribute) (length picture) (length index)) address

-- a refusal has no marks, and "all buffers .. stay"
abbrev pub refuse_with_index : (refusal : ℕ) → (shared screen attribute picture index : List ℕ) → StoredWithIndex
refuse_with_index refusal = stored_with_index (record { refusal = refusal; marks = 0 })

abbrev pub mend_with_index :
    Machine → (shared screen attribute picture index : List ℕ) → (address byte : ℕ) → StoredWithIndex
mend_with_index m shared screen attribute picture index address byte =
    let f = first_in index (seen_8088 address) in
    let left = mend_from f m shared screen attribute picture address byte in
    stored_with_index left.answer left.shared left.screen left.attribute left.picture
    (renewed (chain_of m left.screen left.attribute) f index)

abbrev pub store_with_index :
    Machine → (shared screen attribute picture index : List ℕ) → (address byte : ℕ) → StoredWithIndex
store_with_index m shared screen attribute picture index address byte =
    let refusal = refusal_with_index m shared screen attribute picture index address in
    if refuses refusal then refuse_with_index refusal shared screen attribute picture index
    else mend_with_index m shared screen attribute picture index address byte
