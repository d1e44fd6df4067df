-- Document 02, ticket 8: an index of first readers, and the call that works it out afresh.
use Rattle.std.specs.Prelude.{ℕ, zero, suc, ◌-◌, List, [], ◌∷◌, ◌++◌, Bool, not, ◌&&◌, length, ◌==◌, if◌then◌else◌, nat_lt, Option, Some}
use Rattle.lent.specs.Lengths.{screen_bytes, attribute_bytes, index_bytes}
use Rattle.lent.specs.Refusals.{accepted, refuses, length_refused, refusal_of}
use Rattle.machine.specs.declared.Machine.{Machine}
use Rattle.memories.specs.declared.view8088.Seen.{Seen}
use Rattle.memories.specs.declared.view8088.Seen.TheVariants.{Screen, Attribute}
use Rattle.chain.specs.Chain.{Chain, rows}
use Rattle.picture.specs.Draw.{chain_of}
use Rattle.readers.specs.Readers.{first_reader}

-- "the number of the first row that reads it, or 255"
abbrev pub no_row : ℕ
no_row = 255

abbrev pub entry_of : Chain → Option Seen → ℕ
entry_of c seen = let f = first_reader c seen in if nat_lt f rows then f else no_row

-- "for each place of screen and then of attribute memory": the place that an entry is for
abbrev pub seen_at : (at : ℕ) → Option Seen
seen_at at = Some (if nat_lt at screen_bytes then Screen at else Attribute (at - screen_bytes))

-- so many entries, one after the other
unfoldable pub entries : (entry_at : ℕ → ℕ) → (many : ℕ) → List ℕ
entries entry_at zero = []
entries entry_at (suc at) = entries entry_at at ++ (entry_at at ∷ [])

-- the index "worked out from memory afresh"
abbrev pub index_of : Chain → List ℕ
index_of c = entries (λ at. entry_of c (seen_at at)) index_bytes

-- the three lengths are those of the list
unfoldable pub lengths_index : ℕ → ℕ → ℕ → Bool
lengths_index screen attribute index =
    screen == screen_bytes && (attribute == attribute_bytes && index == index_bytes)

-- what the call leaves: its answer and the index
pub record IndexedReaders : Type 0 where
  pub refusal : ℕ
  pub index : List ℕ

abbrev pub indexed : ℕ → List ℕ → IndexedReaders
indexed refusal index = record { refusal = refusal; index = index }

-- by what it is refused
abbrev pub refusal_indexing : (screen attribute index : List ℕ) → ℕ
refusal_indexing screen attribute index =
    refusal_of ((length_refused, not (lengths_index (length screen) (length attribute) (length index))) ∷ [])

-- a refusal leaves the index as it is
abbrev pub index_readers : Machine → (screen attribute index : List ℕ) → IndexedReaders
index_readers m screen attribute index =
    let refusal = refusal_indexing screen attribute index in
    if refuses refusal then indexed refusal index else indexed accepted (index_of (chain_of m screen attribute))
