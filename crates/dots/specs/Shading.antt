-- Document 01, "Dots": the cells of a machine at a scan of the glyph.
use Rattle.std.specs.Prelude.{ℕ, ◌≡◌, List, map, Bool}
use Rattle.machine.specs.declared.Machine.{Machine}
use Rattle.chain.specs.Chain.{wide}
use Rattle.dots.specs.Attributes.{shade}
use Rattle.dots.specs.Cell.{shown_dots, cell_dots}

-- what decides, with its attribute, how a cell shows the dots of its glyph
pub record Shading : Type 0 where
  pub machine : Machine
  pub scan : ℕ

abbrev pub shading : Machine → (scan : ℕ) → Shading
shading machine scan = record { machine = machine; scan = scan }

-- the dots of a cell with an attribute and a glyph byte, narrow or wide
abbrev pub shown_cell : Shading → (wide : Bool) → (attribute glyph : ℕ) → List ℕ
shown_cell s wide attribute glyph =
    map (shade s.machine attribute s.scan) (shown_dots s.machine.columns132 wide glyph)

-- it is the cell of a row of a kind
abbrev pub IsTheCell : Type 0
IsTheCell =
    (m : Machine) (kind attribute glyph_scan glyph : ℕ)
    → shown_cell (shading m glyph_scan) (wide kind) attribute glyph ≡ cell_dots m kind attribute glyph_scan glyph
