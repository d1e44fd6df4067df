-- The machine with another value in one field and every other field as it was.
use Rattle.std.specs.Prelude.{ℕ, Bool}
use Rattle.machine.specs.declared.Machine.{Machine}

abbrev pub with_columns132 : Machine → Bool → Machine
with_columns132 m new = record m { columns132 = new }

abbrev pub with_hertz50 : Machine → Bool → Machine
with_hertz50 m new = record m { hertz50 = new }

abbrev pub with_interlace : Machine → Bool → Machine
with_interlace m new = record m { interlace = new }

abbrev pub with_latch : Machine → ℕ → Machine
with_latch m new = record m { latch = new }

abbrev pub with_blink : Machine → Bool → Machine
with_blink m new = record m { blink = new }

abbrev pub with_interrupt : Machine → Bool → Machine
with_interrupt m new = record m { interrupt = new }

abbrev pub with_reverse : Machine → Bool → Machine
with_reverse m new = record m { reverse = new }

abbrev pub with_watchdog : Machine → Bool → Machine
with_watchdog m new = record m { watchdog = new }

abbrev pub with_count : Machine → ℕ → Machine
with_count m new = record m { count = new }

abbrev pub with_reset : Machine → Bool → Machine
with_reset m new = record m { reset = new }

abbrev pub with_held : Machine → ℕ → Machine
with_held m new = record m { held = new }
