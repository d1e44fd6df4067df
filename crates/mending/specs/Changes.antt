-- The owner's third demand: "Each 8088 store leaves alone the rows ahead of the first row that read the stored byte,
-- and reports exactly the rows whose record changed." Of every picture, true or not, and of refused stores too.
use Rattle.std.specs.Prelude.{ℕ, ◌≤◌, ◌<◌, ◌≡◌, List, true, false}
use Rattle.machine.specs.declared.Machine.{Machine}
use Rattle.memories.specs.View8088.{seen_8088}
use Rattle.chain.specs.Chain.{rows}
use Rattle.picture.specs.Picture.{record_in}
use Rattle.picture.specs.Draw.{chain_of}
use Rattle.marks.specs.Marks.{bit_set}
use Rattle.readers.specs.Readers.{first_reader}
use Rattle.mending.specs.Store.{store_with_picture}

abbrev pub LeavesAhead : Type 0
LeavesAhead =
    (m : Machine) (shared screen attribute picture : List ℕ) (address byte row : ℕ) → row < rows
    → row < first_reader (chain_of m screen attribute) (seen_8088 address)
    → record_in (store_with_picture m shared screen attribute picture address byte).picture row ≡ record_in picture row

-- a row is marked exactly when its record changed, and a bit that is no row's is never set
abbrev pub MarksTheChanged : Type 0
MarksTheChanged =
    (m : Machine) (shared screen attribute picture : List ℕ) (address byte row : ℕ)
    → let left = store_with_picture m shared screen attribute picture address byte in
    let marked = bit_set left.answer.marks row in
    (row < rows → marked ≡ true → record_in left.picture row ≡ record_in picture row → ⊥)
    × ((row < rows → marked ≡ false → record_in left.picture row ≡ record_in picture row)
    × (rows ≤ row → marked ≡ false))
