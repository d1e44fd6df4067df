-- The part tells its refusal, and holds the scans of its code.
use Prim.Native.Nat.{ℕ, ◌*◌, ◌≤◌, ◌<◌}
use mathlib.Core.Path.{◌≡◌, refl}
use mathlib.Core.List.{List}
use mathlib.Core.Bool.{Bool, true, false, cond}
use native.Mathlib.Omega.{arith}
use lib.ListN.{length, take, drop, length-drop}
use lib.Seq.{length-take-le, get_or-take, get_or-drop}
use lib.Dec.{eqb}
use borrow.Author.Tests.{eqb-true, eq-eqb}
use Rattle.lent.specs.Lengths.{glyph_bytes}
use Rattle.lent.specs.Refusals.{accepted, refuses, length_refused}
use Rattle.glyphs.specs.Glyphs.{code_bytes, glyph_part, part_start, part_refusal, TellsItsRefusal, HoldsTheScans}

pub sixteen :
    (table : List ℕ) (code : ℕ) → length table ≡ glyph_bytes → code < 256
    → length (take code_bytes (drop (code * code_bytes) table)) ≡ code_bytes
sixteen table code long h =
    let left = drop (code * code_bytes) table in
    let room : code_bytes ≤ length left = simp length-drop (omega (arith, long)) in
    length-take-le code_bytes left room

pub tells_its_refusal : TellsItsRefusal
unfolding glyph_part part_refusal
tells_its_refusal table code h = go (eqb (length table) glyph_bytes) refl
  where
    go :
        (b : Bool) → eqb (length table) glyph_bytes ≡ b
        → part_refusal (glyph_part table code) ≡ cond (eqb (length table) glyph_bytes) accepted length_refused
    go true e = rw (e, sixteen table code (eqb-true _ _ e) h) refl
    go false e = rw e refl

-- where the part begins, told by its refusal
pub starts_where :
    (table : List ℕ) (code : ℕ) → code < 256
    → part_start table code ≡ cond (refuses (part_refusal (glyph_part table code))) 0 (code * code_bytes)
unfolding part_start
starts_where table code h = rw (tells_its_refusal table code h) (go (eqb (length table) glyph_bytes))
  where
    go : (b : Bool) → cond b (code * code_bytes) 0 ≡ cond (refuses (cond b accepted length_refused)) 0 (code * code_bytes)
    go true = refl
    go false = refl

pub holds_the_scans : HoldsTheScans
unfolding glyph_part
holds_the_scans table code address long h =
    rw (
      eq-eqb _ _ long,
      get_or-take code_bytes (drop (code * code_bytes) table) address 0 h,
      get_or-drop (code * code_bytes) table address 0,
    )
    refl
