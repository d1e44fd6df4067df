-- Document 01, "Ports", 04 (DC011).
use Rattle.std.specs.Prelude.{ℕ, Bool, true, false, not, cond, ◌||◌, eqb}
use Rattle.lent.specs.Refusals.{code_refused}
use Rattle.machine.specs.declared.Machine.{Machine}
use Rattle.machine.specs.Fields.{with_columns132, with_hertz50, with_interlace}
use Rattle.machine.specs.declared.Written.{Written}
use Rattle.machine.specs.Written.{done, refused}

-- "and both set interlace"
abbrev pub set_columns : Machine → Bool → Written
set_columns m columns132 = done (with_interlace (with_columns132 m columns132) true)

-- "and both clear interlace"
abbrev pub set_rate : Machine → Bool → Written
set_rate m hertz50 = done (with_interlace (with_hertz50 m hertz50) false)

-- "00 .., 10 ..; 20 .., 30": the port's list
abbrev pub dc011_code : ℕ → Bool
dc011_code code = eqb code 0x00 || (eqb code 0x10 || (eqb code 0x20 || eqb code 0x30))

-- "00 sets 80 columns, 10 sets 132 ..; 20 sets 60 Hz, 30 sets 50 Hz"; a code that "is not in that port's list" is
-- refusal 4
abbrev pub write_dc011 : Machine → ℕ → Written
write_dc011 m code =
    cond (not (dc011_code code)) (refused code_refused m)
    (cond (eqb code 0x00) (set_columns m false)
    (cond (eqb code 0x10) (set_columns m true)
    (cond (eqb code 0x20) (set_rate m false)
    (set_rate m true))))
