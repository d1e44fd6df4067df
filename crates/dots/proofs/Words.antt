-- The words show the dots. Which bytes of a word are lit is worked out for each glyph, and what becomes of a lit byte for
-- each two shades. Between them stands that a word is shaded byte by byte.
use Prim.Native.Nat.{ℕ, ◌-◌, ◌*◌, ◌/◌, ◌%◌, ◌^◌, ◌<◌}
use mathlib.Core.Path.{◌≡◌, refl, ap, ◌∙◌}
use mathlib.Core.List.{List, [], ◌∷◌, ◌++◌, map, flat_map}
use mathlib.Core.Bool.{Bool, true, false, cond}
use lib.ListN.{get_or, take, replicate}
use lib.Bits.{bit_and, bit_or, bit_xor, xor_lt, xor_shr, xor_mod, and_shr, and_mod}
use Rattle.std.specs.Int.{w64, to_le_bytes}
use Rattle.dots.specs.Attributes.{shade}
use Rattle.chain.specs.Chain.{wide as wide_kind}
use Rattle.dots.specs.Cell.{glyph_dots, twice, shown_dots, cell_dots, narrow_width, wide_width}
use Rattle.dots.specs.Shading.{Shading, shown_cell}
use Rattle.dots.specs.Inner.{eight, turn_of, unlit_of, half_word, narrow_word, shaded, last_byte, filled, cell_bytes, WordsShowDots}
use Rattle.dots.proofs.Laws.{shade_small, each, each_same}

abbrev word_bytes : (word : ℕ) → List ℕ
word_bytes = to_le_bytes w64

byte_of :
    (dots turn unlit n : ℕ)
    → shaded dots turn unlit / 2 ^ n % 2 ^ 8 ≡ shaded (dots / 2 ^ n % 2 ^ 8) (turn / 2 ^ n % 2 ^ 8) (unlit / 2 ^ n % 2 ^ 8)
byte_of dots turn unlit n = rw (xor_shr _ unlit n, xor_mod _ _ 8, and_shr dots turn n, and_mod _ _ 8) refl

spread : (n : ℕ) → n < 4 → word_bytes (eight n) ≡ replicate 8 n
spread = each_same _ _ 4 refl

turned : (lit : ℕ) → lit < 4 → (unlit : ℕ) → unlit < 4 → shaded 0xFF (bit_xor lit unlit) unlit ≡ lit
turned lit h =
    each_same _ _ 4 (each_same (λ (n : ℕ). each (λ (k : ℕ). shaded 0xFF (bit_xor n k) k) 4) (replicate 4) 4 refl lit h)

-- the words of a glyph, and its eight dots
abbrev words_of : (wide : Bool) → (glyph : ℕ) → List ℕ
words_of true glyph = half_word true (glyph / 16) ∷ half_word true (glyph % 16) ∷ []
words_of false glyph = narrow_word glyph ∷ []

abbrev dots_of : (wide : Bool) → (glyph : ℕ) → List Bool
dots_of wide glyph = let dots = take 8 (glyph_dots true glyph) in cond wide (twice dots) dots

-- FF where a dot is lit
abbrev lights : List Bool → List ℕ
lights = map (λ (dot : Bool). cond dot 0xFF 0)

lit_bytes : (wide : Bool) (glyph : ℕ) → glyph < 256 → flat_map word_bytes (words_of wide glyph) ≡ lights (dots_of wide glyph)
unfolding flat_map glyph_dots twice half_word
lit_bytes true = each_same _ _ 256 refl
lit_bytes false = each_same _ _ 256 refl

module _ (shade_of : Bool → ℕ) (small : (dot : Bool) → shade_of dot < 4) where
  abbrev turn_word : ℕ
  turn_word = eight (bit_xor (shade_of true) (shade_of false))

  abbrev unlits : ℕ
  unlits = eight (shade_of false)

  abbrev shade_word : ℕ → ℕ
  shade_word dots = shaded dots turn_word unlits

  abbrev shade_byte : ℕ → ℕ
  shade_byte byte = shaded byte (bit_xor (shade_of true) (shade_of false)) (shade_of false)

  bytewise : (words : List ℕ) → flat_map word_bytes (map shade_word words) ≡ map shade_byte (flat_map word_bytes words)
  unfolding flat_map
  bytewise [] = refl
  bytewise (dots ∷ words) =
      let e = spread (bit_xor (shade_of true) (shade_of false)) (xor_lt 2 _ _ (small true) (small false)) in
      let f = spread (shade_of false) (small false) in
      let at = byte_of dots turn_word unlits in
      cc (xor_mod (bit_and dots turn_word) unlits 8, and_mod dots turn_word 8, at 8, at 16, at 24, at 32, at 40, at 48, at 56, bytewise words)

  in_shades : (dots : List Bool) → map shade_byte (lights dots) ≡ map shade_of dots
  in_shades [] = refl
  in_shades (true ∷ dots) = cc (turned (shade_of true) (small true) (shade_of false) (small false), in_shades dots)
  in_shades (false ∷ dots) = ap (λ (l : List ℕ). shade_of false ∷ l) (in_shades dots)

  eight_shown :
      (wide : Bool) (glyph : ℕ) → glyph < 256 → flat_map word_bytes (map shade_word (words_of wide glyph)) ≡ map shade_of (dots_of wide glyph)
  eight_shown wide glyph h =
      bytewise (words_of wide glyph) ∙ ap (map shade_byte) (lit_bytes wide glyph h) ∙ in_shades (dots_of wide glyph)

  -- with bit 0 again
  narrow :
      (columns132 : Bool) (glyph : ℕ) → glyph < 256
      → filled (shade_word (narrow_word glyph)) (narrow_width columns132) ≡ map shade_of (glyph_dots columns132 glyph)
  unfolding flat_map glyph_dots
  narrow true glyph h = ap (λ (l : List ℕ). l ++ (get_or l 7 0 ∷ [])) (eight_shown false glyph h)
  narrow false glyph h = ap (λ (l : List ℕ). l ++ (get_or l 7 0 ∷ get_or l 7 0 ∷ [])) (eight_shown false glyph h)

  wide :
      (columns132 : Bool) (glyph : ℕ) → glyph < 256
      → word_bytes (shade_word (half_word true (glyph / 16))) ++ filled (shade_word (half_word true (glyph % 16))) (wide_width columns132 - 8)
      ≡ map shade_of (twice (glyph_dots columns132 glyph))
  unfolding flat_map glyph_dots twice
  wide true glyph h = ap (λ (l : List ℕ). l ++ (get_or l 15 0 ∷ get_or l 15 0 ∷ [])) (eight_shown true glyph h)
  wide false glyph h = ap (λ (l : List ℕ). l ++ (get_or l 15 0 ∷ get_or l 15 0 ∷ get_or l 15 0 ∷ get_or l 15 0 ∷ [])) (eight_shown true glyph h)

  cell :
      (columns132 is_wide : Bool) (glyph : ℕ) → glyph < 256
      → cell_bytes columns132 is_wide turn_word unlits glyph ≡ map shade_of (shown_dots columns132 is_wide glyph)
  cell columns132 true = wide columns132
  cell columns132 false = narrow columns132

pub words_show_dots : WordsShowDots
unfolding cell_dots
words_show_dots m kind attribute scan = cell (shade m attribute scan) (shade_small m attribute scan) m.columns132 (wide_kind kind)

module _ (s : Shading) (attribute glyph room : ℕ) (h : glyph < 256) where
  abbrev shaded_word : ℕ → ℕ
  shaded_word dots = shaded dots (turn_of s.machine s.scan attribute) (unlit_of s.machine s.scan attribute)

  pub narrow_shown :
      room ≡ narrow_width s.machine.columns132
      → (let word = shaded_word (narrow_word glyph) in word_bytes word ++ replicate (room - 8) (last_byte word))
      ≡ shown_cell s false attribute glyph
  narrow_shown e =
      rw e (narrow (shade s.machine attribute s.scan) (shade_small s.machine attribute s.scan) s.machine.columns132 glyph h)

  pub wide_shown :
      room ≡ wide_width s.machine.columns132
      → (let last = shaded_word (half_word true (glyph % 16)) in
      word_bytes (shaded_word (half_word true (glyph / 16))) ++ (word_bytes last ++ replicate (room - 8 - 8) (last_byte last)))
      ≡ shown_cell s true attribute glyph
  wide_shown e =
      rw e (wide (shade s.machine attribute s.scan) (shade_small s.machine attribute s.scan) s.machine.columns132 glyph h)
