-- The definitions give what document 01 says, in every case of the table.
use Rattle.std.specs.Prelude.{◌≡◌, map}
use Rattle.cases.specs.Said.{Case}
use Rattle.cases.specs.Table.{table}

abbrev pub Worked : Type 0
Worked = map (λ (c : Case). c.gives) table ≡ map (λ (c : Case). c.says) table
