-- Document 01, "Ports", and document 02, ticket 2: what the machine's fields say to whoever draws from them, and to the
-- Z80.
use Rattle.std.specs.Prelude.{ℕ, ◌/◌, ◌%◌, ◌^◌, Bool, cond, eqb}
use Rattle.machine.specs.declared.Machine.{Machine}

-- bit n of a number, 0 or 1
abbrev pub bit : ℕ → ℕ → ℕ
bit n number = number / 2 ^ n % 2

-- "00 sets 80 columns, 10 sets 132"
abbrev pub columns : Machine → ℕ
columns m = cond m.columns132 132 80

-- "The latch is read modulo 16"
abbrev pub scroll_latch : Machine → ℕ
scroll_latch m = m.latch % 16

-- 02, ticket 2: "Document 01 only holds bit 0 of port 0A. .. So the Z80 runs only while the bit is 1."
abbrev pub z80_runs : Machine → Bool
z80_runs m = eqb (bit 0 m.held) 1

-- "bit 1 clear blanks the display"
abbrev pub blanked : Machine → Bool
blanked m = eqb (bit 1 m.held) 0

-- "bit 2 set selects the graphics board"
abbrev pub graphics : Machine → Bool
graphics m = eqb (bit 2 m.held) 1
