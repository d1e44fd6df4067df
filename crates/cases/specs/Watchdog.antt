-- 02, ticket 3: ticks of the watchdog and codes, one after the other, from power-up; and accesses of the 8088 in reset.
use Rattle.std.specs.Prelude.{ℕ, zero, suc, List, [], ◌∷◌, ◌++◌, true, replicate}
use Rattle.lent.specs.Lengths.{screen_bytes, attribute_bytes}
use Rattle.lent.specs.declared.ByteRead.{ByteRead}
use Rattle.machine.specs.declared.Machine.{Machine}
use Rattle.machine.specs.Fields.{with_reset}
use Rattle.machine.specs.Power.{power_up}
use Rattle.machine.specs.Watchdog.{watchdog_tick}
use Rattle.memories.specs.View8088.{read_8088}
use Rattle.shadow.specs.Shadow.{read_shadow, write_shadow}
use Rattle.cases.specs.Said.{Said, Byte, Watch}
use Rattle.cases.specs.Memories.{refused_by}
use Rattle.cases.specs.Ports.{written, written_all}

-- so many ticks of the watchdog's clock
unfoldable pub ticked : ℕ → Machine → Machine
ticked zero m = m
ticked (suc ticks) m = ticked ticks (watchdog_tick m)

-- 00 is written to port 0C, which enables the watchdog
unfoldable pub watching : Machine
watching = written_all 0x0C power_up (0x00 ∷ [])

unfoldable pub in_reset : Machine
in_reset = with_reset power_up true

-- what the machine has of the watchdog
unfoldable pub watch : Machine → List Said
watch m = Watch m.watchdog m.count m.reset ∷ []

unfoldable pub told : ByteRead → List Said
told read = refused_by read.refusal ++ (Byte read.byte ∷ [])

-- reads of memories full of 5A, with so many bytes of shared memory lent
unfoldable pub read_by_8088 : Machine → (shared address : ℕ) → List Said
read_by_8088 m shared address =
    told (read_8088 m (replicate shared 0x5A) (replicate screen_bytes 0x5A) (replicate attribute_bytes 0x5A) address)

-- and of a shadow full of 5A, of so many bytes
unfoldable pub read_of_shadow : Machine → (bytes place : ℕ) → List Said
read_of_shadow m bytes place = told (read_shadow m (replicate bytes 0x5A) place)

unfoldable pub written_to_shadow : Machine → (bytes place : ℕ) → List Said
written_to_shadow m bytes place = refused_by (write_shadow m (replicate bytes 0x00) place 0x05).refusal

unfoldable pub written_to_port : Machine → (port code : ℕ) → List Said
written_to_port m port code = refused_by (written port m code).answer.refusal
