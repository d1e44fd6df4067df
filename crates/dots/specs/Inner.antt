-- No sentence of document 01: what our own functions promise each other. A cell shows the lit dots of its glyph in one
-- shade and the unlit ones in another, and they are made eight together, in a word.
use Rattle.std.specs.Prelude.{ℕ, ◌+◌, ◌-◌, ◌*◌, ◌/◌, ◌%◌, ◌^◌, ◌<◌, ◌≡◌, List, ◌++◌, Bool, true, false, if◌then◌else◌, get_or, replicate}
use Rattle.std.specs.Int.{w64, to_le_bytes}
use Rattle.std.specs.Int.Bits.{bit_and, bit_or, bit_xor}
use Rattle.machine.specs.Settings.{bit}
use Rattle.machine.specs.declared.Machine.{Machine}
use Rattle.chain.specs.Chain.{wide}
use Rattle.dots.specs.Attributes.{shade}
use Rattle.dots.specs.Cell.{cell_dots, narrow_width, wide_width}

-- eight dots alike
abbrev pub eight : (dot : ℕ) → ℕ
eight dot = dot * 0x0101010101010101

-- by what eight lit dots of an attribute differ from unlit ones; and eight unlit dots
abbrev pub turn_of : Machine → (glyph_scan attribute : ℕ) → ℕ
turn_of m glyph_scan attribute = eight (bit_xor (shade m attribute glyph_scan true) (shade m attribute glyph_scan false))

abbrev pub unlit_of : Machine → (glyph_scan attribute : ℕ) → ℕ
unlit_of m glyph_scan attribute = eight (shade m attribute glyph_scan false)

-- what is said of each of sixteen attributes stands at its place
abbrev pub OfEach : (ℕ → ℕ) → List ℕ → Type 0
OfEach of all = (attribute : ℕ) → attribute < 16 → get_or all attribute 0 ≡ of attribute

abbrev pub TurnOfEach : Machine → (glyph_scan : ℕ) → List ℕ → Type 0
TurnOfEach m glyph_scan = OfEach (turn_of m glyph_scan)

abbrev pub UnlitOfEach : Machine → (glyph_scan : ℕ) → List ℕ → Type 0
UnlitOfEach m glyph_scan = OfEach (unlit_of m glyph_scan)

-- the four dots of half a glyph, its upper bit lowest: FF where one is lit, in one byte or in two
unfoldable pub half_word : (wide : Bool) → (half : ℕ) → ℕ
half_word wide half =
    let lit = if wide then 0xFFFF else 0xFF in
    let next = lit + 1 in
    lit * (bit 3 half + next * (bit 2 half + next * (bit 1 half + next * bit 0 half)))

-- the last of eight dots
abbrev pub last_byte : (word : ℕ) → ℕ
last_byte word = word / 0x100000000000000 % 256

abbrev pub width_of : (columns132 wide : Bool) → ℕ
width_of columns132 wide = if wide then wide_width columns132 else narrow_width columns132

-- the eight dots of a glyph in a word, FF where one is lit; and a word of dots in the two shades
abbrev pub narrow_word : (glyph : ℕ) → ℕ
narrow_word glyph = bit_or (half_word false (glyph / 16)) (half_word false (glyph % 16) * 2 ^ 32 % 2 ^ 64)

abbrev pub shaded : (dots turn unlit : ℕ) → ℕ
shaded dots turn unlit = bit_xor (bit_and dots turn) unlit

-- eight dots, and the last of them again as often as there is room
abbrev pub filled : (word room : ℕ) → List ℕ
filled word room = to_le_bytes w64 word ++ replicate (room - 8) (last_byte word)

-- the words of a cell
abbrev pub cell_bytes : (columns132 is_wide : Bool) → (turn unlit glyph : ℕ) → List ℕ
cell_bytes columns132 is_wide turn unlit glyph =
    if is_wide
    then to_le_bytes w64 (shaded (half_word true (glyph / 16)) turn unlit)
    ++ filled (shaded (half_word true (glyph % 16)) turn unlit) (wide_width columns132 - 8)
    else filled (shaded (narrow_word glyph) turn unlit) (narrow_width columns132)

-- the words show the dots of a cell
abbrev pub WordsShowDots : Type 0
WordsShowDots =
    (m : Machine) (kind attribute glyph_scan glyph : ℕ) → glyph < 256
    → cell_bytes m.columns132 (wide kind) (turn_of m glyph_scan attribute) (unlit_of m glyph_scan attribute) glyph
    ≡ cell_dots m kind attribute glyph_scan glyph
