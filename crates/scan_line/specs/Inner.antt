-- No sentence of document 01: what our own functions promise each other.
use Rattle.std.specs.Prelude.{ℕ, Bool, if◌then◌else◌}

-- how many cells a row can have
abbrev pub cells_of : (columns132 wide : Bool) → ℕ
cells_of columns132 wide = if columns132 then (if wide then 66 else 132) else (if wide then 40 else 80)
