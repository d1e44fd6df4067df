-- 02, ticket 8: entries of an index, worked out afresh and after a store, and the row that an index names.
use Rattle.std.specs.Prelude.{ℕ, List, [], ◌∷◌, Some}
use Rattle.machine.specs.Power.{power_up}
use Rattle.memories.specs.declared.view8088.Seen.{Seen}
use Rattle.picture.specs.Draw.{chain_of}
use Rattle.index.specs.Index.{entry_of}
use Rattle.index.specs.Store.{first_in, renewed_entry}
use Rattle.cases.specs.Said.{Said, Byte}

-- the entries of these places at 80 columns
unfoldable pub entries_of : (screen attribute : List ℕ) → List Seen → List Said
entries_of screen attribute [] = []
entries_of screen attribute (seen ∷ more) =
    Byte (entry_of (chain_of power_up screen attribute) (Some seen)) ∷ entries_of screen attribute more

-- what becomes of these entries of an index by a store that leaves the memories so, if the index named row f
unfoldable pub renewed_of : (screen attribute : List ℕ) → (f : ℕ) → (index : List ℕ) → (entries : List ℕ) → List Said
renewed_of screen attribute f index [] = []
renewed_of screen attribute f index (at ∷ more) =
    Byte (renewed_entry (chain_of power_up screen attribute) f index at) ∷ renewed_of screen attribute f index more

-- the row that an index names for each of these, 25 for no row
unfoldable pub named_by : (index : List ℕ) → List Seen → List Said
named_by index [] = []
named_by index (seen ∷ more) = Byte (first_in index (Some seen)) ∷ named_by index more
