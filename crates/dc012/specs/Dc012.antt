-- Document 01, "Ports", 0C and 10C (DC012), and document 02, ticket 3.
use Rattle.std.specs.Prelude.{ℕ, ◌+◌, ◌-◌, ◌*◌, ◌/◌, ◌%◌, ◌≤◌, ◌<◌, true, false, not, cond, eqb, leb}
use Rattle.lent.specs.Refusals.{code_refused}
use Rattle.machine.specs.declared.Machine.{Machine}
use Rattle.machine.specs.Fields.{with_latch, with_blink, with_interrupt, with_reverse, with_count}
use Rattle.machine.specs.Settings.{scroll_latch}
use Rattle.machine.specs.declared.Written.{Written}
use Rattle.machine.specs.Written.{done, refused}

-- the latch with other low two bits, and with other high two bits
abbrev pub load_low : ℕ → ℕ → ℕ
load_low latch bits = latch / 4 * 4 + bits

abbrev pub load_high : ℕ → ℕ → ℕ
load_high latch bits = bits * 4 + latch % 4

-- "00 to 03 load the low two bits of the scroll latch, 04 to 07 its high two bits, 08 toggles the blink flip-flop, 09
-- clears the vertical interrupt, 0A sets reverse field, 0B clears it .. Codes 0C and up are refused". 02, ticket 3:
-- "The count goes to 0 at code 09"
abbrev pub write_dc012 : Machine → ℕ → Written
write_dc012 m code =
    cond (leb 0x0C code) (refused code_refused m)
    (cond (leb code 0x03) (done (with_latch m (load_low (scroll_latch m) code)))
    (cond (leb code 0x07) (done (with_latch m (load_high (scroll_latch m) (code - 0x04))))
    (cond (eqb code 0x08) (done (with_blink m (not m.blink)))
    (cond (eqb code 0x09) (done (with_count (with_interrupt m false) 0))
    (cond (eqb code 0x0A) (done (with_reverse m true))
    (done (with_reverse m false)))))))

-- "and a load leaves it under 16": a statement, proved in proofs/Dc012.antt
abbrev pub LoadLeavesUnder16 : Type 0
LoadLeavesUnder16 = (m : Machine) (code : ℕ) → code ≤ 0x07 → (write_dc012 m code).machine.latch < 16
