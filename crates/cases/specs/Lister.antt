-- What the row lister prints of what it read, told by the whole text.
use Rattle.std.specs.Prelude.{ℕ, List, [], ◌∷◌, take, replicate}
use Rattle.lent.specs.Lengths.{picture_bytes}
use Rattle.listing.specs.Listing.{text_bytes, list_rows}
use Rattle.cases.specs.Said.{Said, Prints}

-- `beyond` bytes came after the two memories
unfoldable pub listed_of : (screen attribute : List ℕ) → (beyond : ℕ) → List Said
listed_of screen attribute beyond =
    let left = list_rows screen attribute beyond (replicate picture_bytes 0x00) (replicate text_bytes 0x00) in
    Prints (take left.answer.bytes left.text) ∷ []
