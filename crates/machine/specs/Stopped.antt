-- Document 02, tickets 2 and 3: the number by which every access of a processor that is stopped is refused, 0 while it
-- is not.
use Rattle.std.specs.Prelude.{ℕ, not, cond}
use Rattle.lent.specs.Refusals.{accepted, z80_held_refused, in_reset_refused}
use Rattle.machine.specs.declared.Machine.{Machine}
use Rattle.machine.specs.Settings.{z80_runs}

-- "7, the Z80 is held, for both Z80 access calls"
abbrev pub stop_of_z80 : Machine → ℕ
stop_of_z80 m = cond (not (z80_runs m)) z80_held_refused accepted

-- "During reset, 8088 accesses, those to the shadow too, and port writes are refused."
abbrev pub stop_of_8088 : Machine → ℕ
stop_of_8088 m = cond m.reset in_reset_refused accepted
