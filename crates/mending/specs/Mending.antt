-- Document 01, "The picture": what a store does to the picture, and its marks.
use Rattle.std.specs.Prelude.{ℕ, List, Bool, not, if◌then◌else◌, nat_lt}
use Rattle.std.specs.Str.{bytes_eq}
use Rattle.chain.specs.Chain.{Chain, rows}
use Rattle.picture.specs.Picture.{in_order, record_at, record_in}
use Rattle.marks.specs.Marks.{marks_to}

-- "Records before f stay; records from f on become those of the walk after the store. If no row reads it, no record
-- changes."
abbrev pub mended_record : Chain → (f : ℕ) → (picture : List ℕ) → (row : ℕ) → List ℕ
mended_record after f picture row = if nat_lt row f then record_in picture row else record_at after row

abbrev pub mended : Chain → (f : ℕ) → (picture : List ℕ) → List ℕ
mended after f picture = in_order (mended_record after f picture) rows

-- "The answer is a number whose bit r is set exactly when record r changed."
abbrev pub changed : (before after : List ℕ) → (row : ℕ) → Bool
changed before after row = not (bytes_eq (record_in before row) (record_in after row))

abbrev pub marks_of : (before after : List ℕ) → ℕ
marks_of before after = marks_to (changed before after) rows
