-- Document 01, "Lent memory", and document 02, ticket 3: what the 8088 sees, reads and stores, and when it is refused.
use Rattle.std.specs.Prelude.{ℕ, ◌-◌, List, [], ◌∷◌, Bool, not, cond, ◌&&◌, length, get_or, set, leb, eqb, Option, Some, None, is_none}
use Rattle.lent.specs.Lengths.{shared_bytes, screen_bytes, attribute_bytes}
use Rattle.lent.specs.Refusals.{accepted, refuses, length_refused, address_refused, in_reset_refused, refusal_of}
use Rattle.lent.specs.Answer.{byte_read, read_refused}
use Rattle.lent.specs.declared.ByteRead.{ByteRead}
use Rattle.machine.specs.declared.Machine.{Machine}
use Rattle.memories.specs.declared.view8088.Seen.{Seen}
use Rattle.memories.specs.declared.view8088.Seen.TheVariants.{Shared, Screen, Attribute}

unfoldable pub within : ℕ → ℕ → ℕ → Bool
within first last address = leb first address && leb address last

-- "The 8088 sees shared at 00000 to 0FFFF, screen at EE000 to EEFFF, attribute at EF000 to EFFFF"
unfoldable pub seen_8088 : ℕ → Option Seen
seen_8088 address =
    cond (within 0x00000 0x0FFFF address) (Some (Shared address))
    (cond (within 0xEE000 0xEEFFF address) (Some (Screen (address - 0xEE000)))
    (cond (within 0xEF000 0xEFFFF address) (Some (Attribute (address - 0xEF000))) None))

-- the three lengths are those of the list
unfoldable pub lengths_8088 : ℕ → ℕ → ℕ → Bool
lengths_8088 shared screen attribute =
    eqb shared shared_bytes && (eqb screen screen_bytes && eqb attribute attribute_bytes)

-- by what an access of the 8088 to an address is refused, where all that it is lent has the right lengths or not: among
-- the reasons, that the address "lies in none of its three ranges". 02,
-- ticket 3: "During reset, 8088 accesses .. are refused."
unfoldable pub refused_access : Machine → (lengths : Bool) → (address : ℕ) → ℕ
refused_access m lengths address =
    refusal_of
    ((length_refused, not lengths)
    ∷ (in_reset_refused, m.reset)
    ∷ (address_refused, is_none (seen_8088 address))
    ∷ [])

abbrev pub refusal_8088 : Machine → (shared screen attribute : List ℕ) → (address : ℕ) → ℕ
refusal_8088 m shared screen attribute address =
    refused_access m (lengths_8088 (length shared) (length screen) (length attribute)) address

-- the byte that the 8088 sees, 0 where it sees none
abbrev pub byte_seen : Option Seen → (shared screen attribute : List ℕ) → ℕ
byte_seen (Some (Shared place)) shared screen attribute = get_or shared place 0
byte_seen (Some (Screen place)) shared screen attribute = get_or screen place 0
byte_seen (Some (Attribute place)) shared screen attribute = get_or attribute place 0
byte_seen None shared screen attribute = 0

abbrev pub read_8088 : Machine → (shared screen attribute : List ℕ) → (address : ℕ) → ByteRead
read_8088 m shared screen attribute address =
    let refusal = refusal_8088 m shared screen attribute address in
    cond (refuses refusal) (read_refused refusal)
    (byte_read (byte_seen (seen_8088 address) shared screen attribute))

-- what a store leaves: its answer and the three memories
pub record Stored8088 : Type 0 where
  pub refusal : ℕ
  pub shared : List ℕ
  pub screen : List ℕ
  pub attribute : List ℕ

abbrev pub stored_8088 : ℕ → List ℕ → List ℕ → List ℕ → Stored8088
stored_8088 r shared screen attribute = record { refusal = r; shared = shared; screen = screen; attribute = attribute }

-- the byte is stored where the 8088 sees the address; where it sees none, which is refused, nothing changes
abbrev pub store_seen : Option Seen → (shared screen attribute : List ℕ) → (byte : ℕ) → Stored8088
store_seen (Some (Shared place)) shared screen attribute byte = stored_8088 accepted (set shared place byte) screen attribute
store_seen (Some (Screen place)) shared screen attribute byte = stored_8088 accepted shared (set screen place byte) attribute
store_seen (Some (Attribute place)) shared screen attribute byte = stored_8088 accepted shared screen (set attribute place byte)
store_seen None shared screen attribute byte = stored_8088 accepted shared screen attribute

-- "A refusal returns its number ..; all buffers .. stay."
abbrev pub store_8088 : Machine → (shared screen attribute : List ℕ) → (address byte : ℕ) → Stored8088
store_8088 m shared screen attribute address byte =
    let refusal = refusal_8088 m shared screen attribute address in
    cond (refuses refusal) (stored_8088 refusal shared screen attribute)
    (store_seen (seen_8088 address) shared screen attribute byte)
