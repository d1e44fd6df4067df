-- The part of the glyph table that is a code's, as place and length: a reference cannot be handed to C. Document 01,
-- "Dots" and "Numbers of refusal".
use Rattle.std.specs.Prelude.{ℕ, ◌<◌, ◌≡◌, List, length, take, drop}
use Rattle.glyphs.specs.Glyphs.{glyph_part, part_start, part_refusal}
use Rattle.rainbow.specs.declared.scan_lines.PartPlace.{PartPlace}

-- "code times 16", "the sixteen scan bytes of a code"; refused, "all other numbers 0 .. and a part of no bytes"
unfoldable pub part_place : (table : List ℕ) → (code : ℕ) → PartPlace
part_place table code =
    record {
      refusal = part_refusal (glyph_part table code);
      at = part_start table code;
      length = length (glyph_part table code);
    }

-- what stands there is the part that `glyphs::part` hands back
abbrev pub IsThePart : Type 0
IsThePart =
    (table : List ℕ) (code : ℕ) → code < 256
    → take (part_place table code).length (drop (part_place table code).at table) ≡ glyph_part table code
