-- P7 and P8, and a Z80 that is held: a store of 5A into memories full of 00, told by the places that it changes.
use Rattle.std.specs.Prelude.{ℕ, ◌-◌, List, [], ◌∷◌, ◌++◌, map, cond, replicate, eqb}
use Rattle.lent.specs.Lengths.{shared_bytes, private_bytes, screen_bytes, attribute_bytes}
use Rattle.machine.specs.declared.Machine.{Machine}
use Rattle.machine.specs.Fields.{with_held}
use Rattle.machine.specs.Power.{power_up}
use Rattle.memories.specs.View8088.{store_8088}
use Rattle.memories.specs.ViewZ80.{read_z80, store_z80}
use Rattle.cases.specs.Said.{Said, Private, Shared, Screen, Attribute, Byte, Refused, differ}

unfoldable pub zeros : ℕ → List ℕ
zeros bytes = replicate bytes 0x00

unfoldable pub refused_by : ℕ → List Said
refused_by number = cond (eqb number 0) [] (Refused number ∷ [])

-- port 0A holds 01: bit 0 is set, and no other
unfoldable pub running : Machine
running = with_held power_up 0x01

unfoldable pub stored_by_z80 : Machine → ℕ → List Said
stored_by_z80 m address =
    let left = store_z80 m (zeros private_bytes) (zeros shared_bytes) address 0x5A in
    refused_by left.refusal
    ++ map Private (differ 0 (zeros private_bytes) left.private)
    ++ map Shared (differ 0 (zeros shared_bytes) left.shared)

-- the same, with private memory lent a byte too short
unfoldable pub stored_short : Machine → ℕ → List Said
stored_short m address =
    refused_by (store_z80 m (zeros (private_bytes - 1)) (zeros shared_bytes) address 0x5A).refusal

-- a read of memories full of 5A
unfoldable pub read_by_z80 : Machine → ℕ → List Said
read_by_z80 m address =
    let read = read_z80 m (replicate private_bytes 0x5A) (replicate shared_bytes 0x5A) address in
    refused_by read.refusal ++ (Byte read.byte ∷ [])

unfoldable pub stored_by_8088 : Machine → ℕ → List Said
stored_by_8088 m address =
    let left = store_8088 m (zeros shared_bytes) (zeros screen_bytes) (zeros attribute_bytes) address 0x5A in
    refused_by left.refusal
    ++ map Shared (differ 0 (zeros shared_bytes) left.shared)
    ++ map Screen (differ 0 (zeros screen_bytes) left.screen)
    ++ map Attribute (differ 0 (zeros attribute_bytes) left.attribute)
