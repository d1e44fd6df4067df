-- Document 01, "Dots": the dots of a scan line of a row.
use Rattle.std.specs.Prelude.{ℕ, ◌+◌, ◌-◌, ◌*◌, ◌%◌, ◌≡◌, List, ◌++◌, Bool, if◌then◌else◌, ◌||◌, length, get_or, replicate, ◌==◌}
use Rattle.lent.specs.Lengths.{line_bytes}
use Rattle.machine.specs.Settings.{columns, blanked, graphics}
use Rattle.machine.specs.declared.Machine.{Machine}
use Rattle.chain.specs.Chain.{capacity}
use Rattle.records.specs.Record.{kind_at, count_at, head_bytes, dark_count}
use Rattle.picture.specs.Picture.{in_order}
use Rattle.glyphs.specs.Glyphs.{glyph_byte}
use Rattle.glyphs.specs.Scans.{scan_address, glyph_scan}
use Rattle.dots.specs.Cell.{cell_dots}

-- "The record's kind is taken modulo 8 and its attributes modulo 16."
abbrev pub kind_in : (bytes : List ℕ) → ℕ
kind_in bytes = get_or bytes kind_at 0 % 8

abbrev pub count_in : (bytes : List ℕ) → ℕ
count_in bytes = get_or bytes count_at 0

abbrev pub character_in : (bytes : List ℕ) → (pair : ℕ) → ℕ
character_in bytes pair = get_or bytes (head_bytes + 2 * pair) 0

abbrev pub attribute_in : (bytes : List ℕ) → (pair : ℕ) → ℕ
attribute_in bytes pair = get_or bytes (head_bytes + 2 * pair + 1) 0 % 16

-- the dots of a pair of a record
unfoldable pub pair_dots : Machine → (table bytes : List ℕ) → (scan pair : ℕ) → List ℕ
pair_dots m table bytes scan pair =
    let shown = glyph_scan (kind_in bytes) scan in
    let glyph = glyph_byte table (character_in bytes pair) (scan_address shown) in
    cell_dots m (kind_in bytes) (attribute_in bytes pair) shown glyph

-- "The record's first capacity pairs are drawn"
unfoldable pub row_dots : Machine → (table bytes : List ℕ) → (scan : ℕ) → List ℕ
row_dots m table bytes scan = in_order (pair_dots m table bytes scan) (capacity (columns m) (kind_in bytes))

-- "A line has 800 or 1,188 dots; bytes after 800 become 0."
abbrev pub dots_of_line : Machine → ℕ
dots_of_line m = if m.columns132 then 1188 else 800

-- "The whole line is 0 if the display is blanked, the graphics board selected, or the record's count is 254."
unfoldable pub shows_nothing : Machine → (count : ℕ) → Bool
shows_nothing m count = (blanked m || graphics m) || count == dark_count

unfoldable pub line_of : Machine → (table bytes : List ℕ) → (scan : ℕ) → List ℕ
line_of m table bytes scan =
    if shows_nothing m (count_in bytes)
    then replicate line_bytes 0
    else row_dots m table bytes scan ++ replicate (line_bytes - dots_of_line m) 0

-- "A line has 800 or 1,188 dots", and its buffer has 1,188 bytes
abbrev pub LineSized : Type 0
LineSized =
    (m : Machine) (table bytes : List ℕ) (scan : ℕ)
    → (length (row_dots m table bytes scan) ≡ dots_of_line m) × (length (line_of m table bytes scan) ≡ line_bytes)
