-- Document 01, "Dots", second paragraph: what a cell's attribute makes of its dots.
use Rattle.std.specs.Prelude.{ℕ, ◌-◌, Bool, not, ◌&&◌, ◌||◌, if◌then◌else◌, ◌==◌}
use Rattle.machine.specs.Settings.{bit}
use Rattle.machine.specs.declared.Machine.{Machine}

-- "Attribute: bit 0 set is reverse; bits 1, 2, 3 clear are bold, blink, underline."
abbrev pub is_reverse : (attribute : ℕ) → Bool
is_reverse attribute = bit 0 attribute == 1

abbrev pub is_bold : (attribute : ℕ) → Bool
is_bold attribute = bit 1 attribute == 0

abbrev pub blinks : (attribute : ℕ) → Bool
blinks attribute = bit 2 attribute == 0

abbrev pub is_underlined : (attribute : ℕ) → Bool
is_underlined attribute = bit 3 attribute == 0

-- "Then, in order (house): underline lights all dots of glyph scan 9"
abbrev pub underline_scan : ℕ
underline_scan = 9

abbrev pub underlined : (attribute glyph_scan : ℕ) → (dot : Bool) → Bool
underlined attribute glyph_scan dot = dot || (is_underlined attribute && glyph_scan == underline_scan)

-- "reverse, exclusive or reverse field, inverts"
abbrev pub xor : Bool → Bool → Bool
xor a b = if a then not b else b

abbrev pub inverted : Machine → (attribute : ℕ) → (dot : Bool) → Bool
inverted m attribute dot = xor (xor (is_reverse attribute) m.reverse) dot

abbrev pub lit : Machine → (attribute glyph_scan : ℕ) → (dot : Bool) → Bool
lit m attribute glyph_scan dot = inverted m attribute (underlined attribute glyph_scan dot)

-- "A lit dot is 2, or 3 if bold, less 1 if it blinks and the flip-flop is set. An unlit one is 0."
abbrev pub steady : (attribute : ℕ) → ℕ
steady attribute = if is_bold attribute then 3 else 2

abbrev pub intensity : Machine → (attribute : ℕ) → (lit : Bool) → ℕ
intensity m attribute lit =
    if lit then steady attribute - (if blinks attribute && m.blink then 1 else 0) else 0

-- a dot of the glyph as it is shown
unfoldable pub shade : Machine → (attribute glyph_scan : ℕ) → (dot : Bool) → ℕ
shade m attribute glyph_scan dot = intensity m attribute (lit m attribute glyph_scan dot)
