-- No sentence of a document: what our own functions promise each other. Here the one that names a wild row.
use Rattle.std.specs.Prelude.{ℕ, Bool, Option, Some, None, if◌then◌else◌}

-- the first wild row with one row more: a row that was named stays, else this one is named if it is wild
abbrev pub named : Option ℕ → (row : ℕ) → (wild : Bool) → Option ℕ
named (Some before) row wild = Some before
named None row wild = if wild then Some row else None
