-- Document 01, "Dots" and "Numbers of refusal": the scan line call.
use Rattle.std.specs.Prelude.{ℕ, List, [], ◌∷◌, Bool, not, ◌&&◌, length, if◌then◌else◌, ◌==◌, nat_lt, nat_le}
use Rattle.lent.specs.Lengths.{picture_bytes, glyph_bytes, line_bytes}
use Rattle.lent.specs.Refusals.{accepted, refuses, length_refused, place_refused, refusal_of}
use Rattle.machine.specs.declared.Machine.{Machine}
use Rattle.chain.specs.Chain.{rows}
use Rattle.picture.specs.Picture.{record_in}
use Rattle.glyphs.specs.Scans.{first_scan, last_scan}
use Rattle.scan_line.specs.Line.{line_of}

-- "1: a lent buffer's length differs from the list"
unfoldable pub lengths_line : (picture table line : ℕ) → Bool
lengths_line picture table line = picture == picture_bytes && (table == glyph_bytes && line == line_bytes)

-- "5: a row over 24, a scan outside 1 to 10", the row limit by 02, ticket 5
unfoldable pub on_tube : (row scan : ℕ) → Bool
on_tube row scan = nat_lt row rows && (nat_le first_scan scan && nat_le scan last_scan)

-- what the call leaves: its number of refusal and the line
pub record DrawnLine : Type 0 where
  pub refusal : ℕ
  pub line : List ℕ

abbrev pub drawn_line : ℕ → List ℕ → DrawnLine
drawn_line refusal line = record { refusal = refusal; line = line }

-- by what the call is refused
abbrev pub refusal_line : (picture table : List ℕ) → (row scan : ℕ) → (line : List ℕ) → ℕ
refusal_line picture table row scan line =
    refusal_of
    ((length_refused, not (lengths_line (length picture) (length table) (length line)))
    ∷ (place_refused, not (on_tube row scan))
    ∷ [])

abbrev pub draw_line : Machine → (picture table : List ℕ) → (row scan : ℕ) → (line : List ℕ) → DrawnLine
draw_line m picture table row scan line =
    let refusal = refusal_line picture table row scan line in
    if refuses refusal
    then drawn_line refusal line
    else drawn_line accepted (line_of m table (record_in picture row) scan)
