-- P10, P11 and the character that 003 prints: scan lines of row 0, told by which of their first dots are lit.
use Rattle.std.specs.Prelude.{ℕ, ◌*◌, ◌^◌, List, [], ◌∷◌, ◌++◌, map, Bool, cond, take, set, replicate, eqb}
use Rattle.lent.specs.Lengths.{picture_bytes, glyph_bytes, line_bytes}
use Rattle.machine.specs.Fields.{with_columns132, with_held}
use Rattle.machine.specs.Power.{power_up}
use Rattle.machine.specs.declared.Machine.{Machine}
use Rattle.scan_line.specs.Call.{draw_line}
use Rattle.cases.specs.Said.{Said, Dots}

-- a machine that shows its screen
unfoldable pub showing : (columns132 : Bool) → Machine
showing columns132 = with_columns132 (with_held power_up 0x02) columns132

-- a picture whose row 0 is of a kind; each of its cells is the character 0E with no attribute
unfoldable pub row_of_kind : (kind : ℕ) → List ℕ
row_of_kind kind = set (replicate picture_bytes 0x0E) 2 kind

-- the first dots of a scan, 1 where one is lit
unfoldable pub lit_dots : (columns132 : Bool) → (kind : ℕ) → (table : List ℕ) → (scan dots : ℕ) → List ℕ
lit_dots columns132 kind table scan dots =
    map (λ (dot : ℕ). cond (eqb dot 0) 0 1)
    (take dots (draw_line (showing columns132) (row_of_kind kind) table 0 scan (replicate line_bytes 0x00)).line)

-- a table in which every glyph byte is the same
unfoldable pub every_byte : ℕ → List ℕ
every_byte byte = replicate glyph_bytes byte

-- a table with the sixteen bytes of the character 0E
unfoldable pub of_character : (bytes : List ℕ) → List ℕ
of_character bytes = replicate (0x0E * 16) 0x00 ++ (bytes ++ replicate (0xF1 * 16) 0x00)

-- a character whose glyph byte at each scan is the scan's number; addresses 9 to E have no scan
unfoldable pub numbered : List ℕ
numbered = of_character (2 ∷ 3 ∷ 4 ∷ 5 ∷ 6 ∷ 7 ∷ 8 ∷ 9 ∷ 10 ∷ 0 ∷ 0 ∷ 0 ∷ 0 ∷ 0 ∷ 0 ∷ 1 ∷ [])

-- 003, section 2.1.6.7, "Character Generator Bit Positions": the digits over two cells, and at 132 columns a fill dot
-- less
unfoldable pub digits80 : List ℕ
digits80 = 7 ∷ 6 ∷ 5 ∷ 4 ∷ 3 ∷ 2 ∷ 1 ∷ 0 ∷ 0 ∷ 0 ∷ 7 ∷ 6 ∷ 5 ∷ 4 ∷ 3 ∷ 2 ∷ 1 ∷ 0 ∷ 0 ∷ 0 ∷ []

unfoldable pub digits132 : List ℕ
digits132 = 7 ∷ 6 ∷ 5 ∷ 4 ∷ 3 ∷ 2 ∷ 1 ∷ 0 ∷ 0 ∷ 7 ∷ 6 ∷ 5 ∷ 4 ∷ 3 ∷ 2 ∷ 1 ∷ 0 ∷ 0 ∷ []

unfoldable pub bits : List ℕ
bits = 7 ∷ 6 ∷ 5 ∷ 4 ∷ 3 ∷ 2 ∷ 1 ∷ 0 ∷ []

-- the dots that each bit lights by itself
unfoldable pub lit_by_bits : (columns132 : Bool) → (kind dots : ℕ) → List Said
lit_by_bits columns132 kind dots = map (λ (n : ℕ). Dots (lit_dots columns132 kind (every_byte (2 ^ n)) 1 dots)) bits

-- those with its digit over them
unfoldable pub under_digits : (digits : List ℕ) → List Said
under_digits digits = map (λ (n : ℕ). Dots (map (λ (digit : ℕ). cond (eqb digit n) 1 0) digits)) bits

-- the two scans under the digits that have ten marks left in our copy, each read as one cell; the bytes are the first
-- eight
unfoldable pub printed : List ℕ
printed = of_character (0 ∷ 0 ∷ 0x77 ∷ 0 ∷ 0 ∷ 0xEF ∷ 0 ∷ 0 ∷ 0 ∷ 0 ∷ 0 ∷ 0 ∷ 0 ∷ 0 ∷ 0 ∷ 0 ∷ [])
