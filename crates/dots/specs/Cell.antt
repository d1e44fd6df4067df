-- Document 01, "Dots": the dots of a cell.
use Rattle.std.specs.Prelude.{ℕ, ◌≡◌, List, [], ◌∷◌, ◌++◌, map, Bool, if◌then◌else◌, length, ◌==◌}
use Rattle.machine.specs.Settings.{bit}
use Rattle.machine.specs.declared.Machine.{Machine}
use Rattle.chain.specs.Chain.{wide}
use Rattle.dots.specs.Attributes.{shade}

-- "A cell is eight dots, bit 7 first, then bit 0 again twice at 80 columns, once at 132."
abbrev pub eight_bits : List ℕ
eight_bits = 7 ∷ 6 ∷ 5 ∷ 4 ∷ 3 ∷ 2 ∷ 1 ∷ 0 ∷ []

abbrev pub fill_bits : (columns132 : Bool) → List ℕ
fill_bits columns132 = if columns132 then 0 ∷ [] else 0 ∷ 0 ∷ []

unfoldable pub glyph_dots : (columns132 : Bool) → (glyph : ℕ) → List Bool
glyph_dots columns132 glyph = map (λ (n : ℕ). bit n glyph == 1) (eight_bits ++ fill_bits columns132)

-- "Wide kinds show each dot twice."
unfoldable pub twice : List Bool → List Bool
twice [] = []
twice (dot ∷ dots) = dot ∷ dot ∷ twice dots

abbrev pub shown_dots : (columns132 is_wide : Bool) → (glyph : ℕ) → List Bool
shown_dots columns132 is_wide glyph =
    if is_wide then twice (glyph_dots columns132 glyph) else glyph_dots columns132 glyph

-- the dots of a cell as they are shown: of a row of a kind, with an attribute, at a scan of the glyph whose byte is
-- given
unfoldable pub cell_dots : Machine → (kind attribute glyph_scan glyph : ℕ) → List ℕ
cell_dots m kind attribute glyph_scan glyph = map (shade m attribute glyph_scan) (shown_dots m.columns132 (wide kind) glyph)

-- how many they are
abbrev pub narrow_width : (columns132 : Bool) → ℕ
narrow_width columns132 = if columns132 then 9 else 10

abbrev pub wide_width : (columns132 : Bool) → ℕ
wide_width columns132 = if columns132 then 18 else 20

unfoldable pub cell_width : (columns132 : Bool) → (kind : ℕ) → ℕ
cell_width columns132 kind = if wide kind then wide_width columns132 else narrow_width columns132

abbrev pub CellSized : Type 0
CellSized =
    (m : Machine) (kind attribute glyph_scan glyph : ℕ)
    → length (cell_dots m kind attribute glyph_scan glyph) ≡ cell_width m.columns132 kind
