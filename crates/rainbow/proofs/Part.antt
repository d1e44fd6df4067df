-- The part is where its place says.
use Prim.Native.Nat.{ℕ, ◌*◌, ◌<◌}
use mathlib.Core.Path.{◌≡◌, refl, ap, subst}
use mathlib.Core.List.{List, []}
use mathlib.Core.Bool.{Bool, true, false}
use lib.ListN.{length, take, drop}
use lib.Dec.{eqb}
use borrow.Author.Tests.{eqb-true}
use Rattle.std.proofs.Common.{Bor, Result, Ok, Err, MatchOption}
use Rattle.std.specs.Option.{option_map_or}
use Rattle.lent.specs.Lengths.{glyph_bytes}
use Rattle.lent.specs.Refusals.{accepted, number_of}
use Rattle.lent.specs.declared.refusals.Refusal.{Refusal}
use Rattle.glyphs.specs.Glyphs.{code_bytes, glyph_part, part_start, part_refusal, Slice, PartAnswer, part_answer, told_part}
use Rattle.glyphs.proofs.Glyphs.{sixteen}
use Rattle.rainbow.specs.declared.scan_lines.PartPlace.{PartPlace}
use Rattle.rainbow.specs.Part.{part_place, IsThePart}

pub is_the_part : IsThePart
unfolding part_place glyph_part part_start part_refusal
is_the_part table code h = go (eqb (length table) glyph_bytes) refl
  where
    go :
        (b : Bool) → eqb (length table) glyph_bytes ≡ b
        → take (part_place table code).length (drop (part_place table code).at table) ≡ glyph_part table code
    go true e = rw (e, sixteen table code (eqb-true _ _ e) h) refl
    go false e = rw e refl

-- the place told, from the part that was handed back or from the refusal
abbrev in_numbers : (answer : Result (Bor (List ℕ)) Refusal) → (code : ℕ) → PartPlace
in_numbers (Ok part) code = record { refusal = accepted; at = code * code_bytes; length = length part.now }
in_numbers (Err refusal) code = record { refusal = number_of refusal; at = 0; length = 0 }

pub placed :
    (table : List ℕ) (code : ℕ) (at : ℕ × ℕ) (answer : Result (Bor (List ℕ)) Refusal) → code < 256
    → told_part answer ≡ part_answer at table code → in_numbers answer code ≡ part_place table code
unfolding part_place glyph_part part_start part_refusal
placed table code at answer h e = go (eqb (length table) glyph_bytes) refl answer e
  where
    go :
        (b : Bool) → eqb (length table) glyph_bytes ≡ b → (answer : Result (Bor (List ℕ)) Refusal)
        → told_part answer ≡ part_answer at table code → in_numbers answer code ≡ part_place table code
    go true f (Ok part) e =
        let whole = sixteen table code (eqb-true _ _ f) h in
        let bytes = ap (λ (told : PartAnswer). option_map_or (λ (part : Slice). part.bytes) told.part []) (rw (f, whole) at e) in
        rw (f, bytes, whole) refl
    go true f (Err refusal) e =
        let whole = sixteen table code (eqb-true _ _ f) h in
        absurd (subst (λ (told : PartAnswer). MatchOption told.part (Unit {0}) (λ part. ⊥)) (rw (f, whole) at e) tt)
    go false f (Ok part) e = absurd (subst (λ (told : PartAnswer). MatchOption told.part ⊥ (λ part. Unit {0})) (rw f at e) tt)
    go false f (Err refusal) e = rw (f, ap (λ (told : PartAnswer). told.refusal) (rw f at e)) refl
