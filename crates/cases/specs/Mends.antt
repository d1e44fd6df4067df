-- P13: a store with a picture drawn at power-up, told by the picture that it leaves and by the rows that it marks.
use Rattle.std.specs.Prelude.{ℕ, zero, suc, ◌+◌, ◌-◌, ◌*◌, List, [], ◌∷◌, ◌++◌, cond, drop, replicate}
use Rattle.lent.specs.Lengths.{shared_bytes, attribute_bytes}
use Rattle.machine.specs.Power.{power_up}
use Rattle.records.specs.Record.{record_bytes}
use Rattle.marks.specs.Marks.{bit_set}
use Rattle.mending.specs.Store.{StoredWithPicture, store_with_picture}
use Rattle.cases.specs.Said.{Said, Marked}
use Rattle.cases.specs.Screens.{drawn_from, rows_of, memory}
use Rattle.cases.specs.Memories.{zeros}

-- the rows of a number's bits, so many from `row` on
unfoldable pub marked_of : (row more marks : ℕ) → List Said
marked_of row zero marks = []
marked_of row (suc more) marks =
    let later = marked_of (row + 1) more marks in
    cond (bit_set marks row) (Marked row ∷ later) later

-- the rows from `first` to `last`
unfoldable pub marked_from : (row more : ℕ) → List Said
marked_from row zero = []
marked_from row (suc more) = Marked row ∷ marked_from (row + 1) more

unfoldable pub marked : (first last : ℕ) → List Said
marked first last = marked_from first (last + 1 - first)

-- a byte stored at a place of a screen memory that begins with these bytes, where every attribute byte is the same
unfoldable pub stored_at : (bytes : List ℕ) → (beside place byte : ℕ) → StoredWithPicture
stored_at bytes beside place byte =
    let attribute = replicate attribute_bytes beside in
    let picture = (drawn_from (memory bytes) attribute).picture in
    store_with_picture power_up (zeros shared_bytes) (memory bytes) attribute picture (0xEE000 + place) byte

-- the record of a row after it, and the rows that are marked by any of the 32 bits
unfoldable pub mended_row : (row : ℕ) → (bytes : List ℕ) → (beside place byte : ℕ) → List Said
mended_row row bytes beside place byte =
    let left = stored_at bytes beside place byte in
    rows_of row 1 (drop (row * record_bytes) left.picture) ++ marked_of 0 32 left.answer.marks
