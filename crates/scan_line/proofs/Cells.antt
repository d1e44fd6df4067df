-- The cells of a row, drawn from the left: what holds with so many drawn, how it goes on and ends; and that they show the
-- row's dots.
use Prim.Native.Nat.{ℕ, suc, ◌+◌, ◌-◌, ◌*◌, ◌%◌, ◌≤◌, ◌<◌}
use mathlib.Core.Path.{◌≡◌, refl, ◌∙◌}
use mathlib.Core.List.{List}
use mathlib.Core.Bool.{Bool}
use native.Mathlib.Nat.{zero-mul, suc-mul, mul-le-mul_right}
use native.Mathlib.Numerals.{add-one}
use native.Mathlib.Omega.{arith}
use lib.ListN.{length, get_or, take}
use borrow.Rule.Slice.PartMut.{put_mid}
use Rattle.lent.specs.Lengths.{line_bytes}
use Rattle.lent.proofs.Parts.{part_back, part_put}
use Rattle.machine.specs.declared.Machine.{Machine}
use Rattle.chain.specs.Chain.{wide, capacity}
use Rattle.picture.specs.Picture.{in_order}
use Rattle.dots.specs.Inner.{width_of}
use Rattle.dots.specs.Shading.{Shading, shading, shown_cell}
use Rattle.dots.proofs.Cell.{is_the_cell}
use Rattle.glyphs.specs.Glyphs.{glyph_byte}
use Rattle.glyphs.specs.Scans.{scan_address, glyph_scan}
use Rattle.records.specs.Record.{head_bytes}
use Rattle.scan_line.specs.Line.{kind_in, pair_dots, row_dots, dots_of_line}
use Rattle.scan_line.specs.Inner.{cells_of}
use Rattle.scan_line.proofs.Laws.{cells_are}

pub record Rowing (dots : ℕ → List ℕ) (width : ℕ) (line : List ℕ) (cell : ℕ) : Type 0 where
  pub same : length line ≡ line_bytes
  pub drawn : take (cell * width) line ≡ in_order dots cell

module _ (width cells : ℕ) {cell : ℕ} (fits : cells * width ≤ line_bytes) (more : cell < cells) where
  pub cell_room : cell * width + width ≤ line_bytes
  cell_room = omega (arith, mul-le-mul_right {m = suc cell} {n = cells} width more, suc-mul cell width, fits)

  pub row_goes_on :
      {dots : ℕ → List ℕ} {line new : List ℕ} → Rowing dots width line cell → new ≡ dots cell → length new ≡ width
      → Rowing dots width (put_mid (cell * width) (cell * width + width - cell * width) line new) (cell + 1)
  unfolding in_order
  row_goes_on {line = line} {new} r e long =
      let room : cell * width + width ≤ length line = omega (arith, cell_room, r.same) in
      let after : (cell + 1) * width ≡ cell * width + width = rw (add-one cell) (suc-mul cell width) in
      record {
        same = part_back line (cell * width) width room new long ∙ r.same;
        drawn = rw (after, part_put line (cell * width) width room new long, r.drawn, add-one cell, e) refl;
      }

pub row_begins : (dots : ℕ → List ℕ) (width : ℕ) (line : List ℕ) → length line ≡ line_bytes → Rowing dots width line 0
unfolding in_order
row_begins dots width line same = record { same = same; drawn = rw (zero-mul width) refl }

pub row_shown :
    (m : Machine) (table bytes line : List ℕ) (scan width cells cell : ℕ) (columns132 is_wide : Bool)
    → m.columns132 ≡ columns132 → wide (kind_in bytes) ≡ is_wide → width ≡ width_of columns132 is_wide
    → cells ≡ cells_of columns132 is_wide → cell ≡ cells → Rowing (pair_dots m table bytes scan) width line cell
    → take (dots_of_line m) line ≡ row_dots m table bytes scan
unfolding row_dots capacity
row_shown m table bytes line scan width cells cell columns132 is_wide e f g h last r =
    let are = cells_are columns132 is_wide in
    let drawn = rw (last, g, h) at r.drawn in
    rw (are.fill, are.all, ← e, ← f) at drawn

-- a pair is drawn by the shades of the row's scan of the glyph
pub pair_shown :
    (m : Machine) (table bytes : List ℕ) (scan pair : ℕ) {s : Shading} {kind shown glyph : ℕ} {is_wide : Bool}
    → s ≡ shading m shown → kind ≡ kind_in bytes → shown ≡ glyph_scan kind scan
    → glyph ≡ glyph_byte table (get_or bytes (head_bytes + 2 * pair) 0) (scan_address shown) → wide (kind_in bytes) ≡ is_wide
    → shown_cell s is_wide (get_or bytes (head_bytes + 2 * pair + 1) 0 % 16) glyph ≡ pair_dots m table bytes scan pair
unfolding pair_dots
pair_shown m table bytes scan pair d e f g h = rw (d, g, f, e, ← h) (is_the_cell m (kind_in bytes) _ _ _)
