-- Text with room for a number of bytes, as the list of those that were put: words after them, as far as there is room.
use Rattle.std.specs.Prelude.{ℕ, ◌-◌, List, ◌++◌, take, length}

unfoldable pub with_words : (room : ℕ) → (text words : List ℕ) → List ℕ
with_words room text words = text ++ take (room - length text) words
