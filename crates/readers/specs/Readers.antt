-- Document 01, "The picture": "the first row that reads the stored byte".
use Rattle.std.specs.Prelude.{ℕ, ◌≤◌, ◌<◌, ◌≡◌, ◌==◌, List, [], ◌∷◌, Bool, true, false, if◌then◌else◌, Option, Some, None}
use Rattle.memories.specs.declared.view8088.Seen.{Seen}
use Rattle.memories.specs.declared.view8088.Seen.TheVariants.{Shared, Screen, Attribute}
use Rattle.chain.specs.Chain.{Chain, Row, rows, row_at}
use Rattle.chain.specs.First.{first_that}
use Rattle.chain.specs.Reading.{screen_read, attribute_read}

-- whether a place is one of these
unfoldable pub among : ℕ → List ℕ → Bool
among place [] = false
among place (one ∷ places) = let later = among place places in if place == one then true else later

-- whether the byte that the 8088 sees is at one of these places of screen memory, or of attribute memory; a byte of
-- shared memory is at none
abbrev pub reads_byte : Option Seen → (screen attribute : List ℕ) → Bool
reads_byte (Some (Shared place)) screen attribute = false
reads_byte (Some (Screen place)) screen attribute = among place screen
reads_byte (Some (Attribute place)) screen attribute = among place attribute
reads_byte None screen attribute = false

-- whether a row reads the byte
abbrev pub row_reads : Chain → Option Seen → Row → Bool
row_reads c seen row = reads_byte seen (screen_read c row) (attribute_read c row)

-- "the first row that reads the stored byte"; where none does, the number after the last
abbrev pub first_reader : Chain → Option Seen → ℕ
first_reader c seen = first_that (λ row. row_reads c seen (row_at c row)) 0 rows

-- the first reader reads the byte, and no row ahead of it does; it is one of the rows, or no row reads the byte
abbrev pub IsFirst : Type 0
IsFirst =
    (c : Chain) (seen : Option Seen) → let f = first_reader c seen in
    (f ≤ rows)
    × ((f < rows → row_reads c seen (row_at c f) ≡ true)
    × ((row : ℕ) → row < f → row_reads c seen (row_at c row) ≡ false))
