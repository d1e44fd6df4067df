-- Document 01, "Lent memory" and "The picture", and document 02, tickets 2 and 3: a store changes one byte.
use Rattle.std.specs.Prelude.{ℕ, ◌-◌, ◌<◌, ◌≡◌, List, Bool, false, not, cond, ◌&&◌, length, get_or, eqb}
use Rattle.lent.specs.Lengths.{shared_bytes}
use Rattle.lent.specs.Refusals.{refuses}
use Rattle.machine.specs.declared.Machine.{Machine}
use Rattle.memories.specs.View8088.{within, refusal_8088, store_8088}
use Rattle.memories.specs.ViewZ80.{refusal_z80, is_private, store_z80}

-- a memory as it was but for one place, where it holds a byte if the test holds
abbrev pub OnlyAt : (here : Bool) → (place byte : ℕ) → (before new : List ℕ) → Type 0
OnlyAt here place byte before new =
    (length new ≡ length before)
    × ((one : ℕ) → get_or new one 0 ≡ cond (here && eqb one place) byte (get_or before one 0))

-- "A store with no picture .. changes the one byte"
abbrev pub ChangesTheOneByte : Type 0
ChangesTheOneByte =
    (m : Machine) (shared screen attribute : List ℕ) (address byte : ℕ)
    → refuses (refusal_8088 m shared screen attribute address) ≡ false
    → let left = store_8088 m shared screen attribute address byte in
    OnlyAt (within 0x00000 0x0FFFF address) address byte shared left.shared
    × (OnlyAt (within 0xEE000 0xEEFFF address) (address - 0xEE000) byte screen left.screen
    × OnlyAt (within 0xEF000 0xEFFFF address) (address - 0xEF000) byte attribute left.attribute)

-- "A Z80 store changes that one byte and no other." An address has sixteen bits. What is left out are the stores that
-- are refused, because of a length or because the Z80 is held; they change nothing
abbrev pub ChangesOneByte : Type 0
ChangesOneByte =
    (m : Machine) (private shared : List ℕ) (address byte : ℕ)
    → refuses (refusal_z80 m (length private) (length shared)) ≡ false → address < shared_bytes
    → let left = store_z80 m private shared address byte in
    OnlyAt (is_private address) address byte private left.private
    × OnlyAt (not (is_private address)) address byte shared left.shared
