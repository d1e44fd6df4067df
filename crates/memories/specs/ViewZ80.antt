-- Document 01, "Lent memory", and document 02, ticket 2: what the Z80 sees, reads and stores, and when it is held.
use Rattle.std.specs.Prelude.{ℕ, List, [], ◌∷◌, Bool, not, cond, ◌&&◌, length, get_or, set, ltb, eqb}
use Rattle.lent.specs.Lengths.{shared_bytes, private_bytes}
use Rattle.lent.specs.Refusals.{accepted, refuses, length_refused, z80_held_refused, refusal_of}
use Rattle.lent.specs.Answer.{byte_read, read_refused}
use Rattle.lent.specs.declared.ByteRead.{ByteRead}
use Rattle.machine.specs.declared.Machine.{Machine}
use Rattle.machine.specs.Settings.{z80_runs}

-- the two lengths are those of the list
unfoldable pub lengths_z80 : ℕ → ℕ → Bool
lengths_z80 private shared = eqb private private_bytes && eqb shared shared_bytes

-- by what an access of the Z80 is refused, with memories of these lengths. 02, ticket 2: "Refusals: 7, the Z80 is held,
-- for both Z80 access calls, after 1." 01: "A Z80 address has sixteen bits, so none is refused."
unfoldable pub refusal_z80 : Machine → (private shared : ℕ) → ℕ
refusal_z80 m private shared =
    refusal_of
    ((length_refused, not (lengths_z80 private shared))
    ∷ (z80_held_refused, not (z80_runs m))
    ∷ [])

-- "The Z80 sees private at 0000 to 07FF and, from 0800 to FFFF, the shared byte of the same address."
abbrev pub shared_from : ℕ
shared_from = 0x0800

unfoldable pub is_private : ℕ → Bool
is_private address = ltb address shared_from

unfoldable pub seen_z80 : List ℕ → List ℕ → ℕ → ℕ
seen_z80 private shared address = cond (is_private address) (get_or private address 0) (get_or shared address 0)

abbrev pub read_z80 : Machine → (private shared : List ℕ) → (address : ℕ) → ByteRead
read_z80 m private shared address =
    let refusal = refusal_z80 m (length private) (length shared) in
    cond (refuses refusal) (read_refused refusal)
    (byte_read (seen_z80 private shared address))

-- what a store leaves: its answer and the two memories
pub record StoredZ80 : Type 0 where
  pub refusal : ℕ
  pub private : List ℕ
  pub shared : List ℕ

abbrev pub stored_z80 : ℕ → List ℕ → List ℕ → StoredZ80
stored_z80 r private shared = record { refusal = r; private = private; shared = shared }

-- "A Z80 store changes that one byte and no other"; one that is refused changes none
abbrev pub store_z80 : Machine → (private shared : List ℕ) → (address byte : ℕ) → StoredZ80
store_z80 m private shared address byte =
    let refusal = refusal_z80 m (length private) (length shared) in
    cond (refuses refusal) (stored_z80 refusal private shared)
    (cond (is_private address)
    (stored_z80 accepted (set private address byte) shared)
    (stored_z80 accepted private (set shared address byte)))
