-- Document 01, "Lent memory": "The shadow is read and written by place 0 to 255"; and document 02, ticket 3.
use Rattle.std.specs.Prelude.{ℕ, ◌%◌, List, [], ◌∷◌, not, cond, length, get_or, set, ltb, eqb}
use Rattle.lent.specs.Lengths.{shadow_bytes}
use Rattle.lent.specs.Refusals.{accepted, refuses, length_refused, place_refused, in_reset_refused, refusal_of}
use Rattle.lent.specs.Answer.{byte_read, read_refused}
use Rattle.lent.specs.declared.ByteRead.{ByteRead}
use Rattle.machine.specs.declared.Machine.{Machine}

-- "place 0 to 255"
abbrev pub last_place : ℕ
last_place = 255

-- by what an access of the shadow is refused, where so many bytes are lent. 02, ticket 3: "During reset, 8088 accesses,
-- those to the shadow too, .. are refused."
unfoldable pub refused_place : Machine → (bytes place : ℕ) → ℕ
refused_place m bytes place =
    refusal_of
    ((length_refused, not (eqb bytes shadow_bytes))
    ∷ (in_reset_refused, m.reset)
    ∷ (place_refused, ltb last_place place)
    ∷ [])

abbrev pub refusal_shadow : Machine → (shadow : List ℕ) → (place : ℕ) → ℕ
refusal_shadow m shadow place = refused_place m (length shadow) place

-- "a read gives the byte modulo 16"
abbrev pub read_shadow : Machine → (shadow : List ℕ) → (place : ℕ) → ByteRead
read_shadow m shadow place =
    let refusal = refusal_shadow m shadow place in
    cond (refuses refusal) (read_refused refusal)
    (byte_read (get_or shadow place 0 % 16))

-- what a write leaves: its answer and the shadow
pub record WrittenShadow : Type 0 where
  pub refusal : ℕ
  pub shadow : List ℕ

abbrev pub written_shadow : ℕ → List ℕ → WrittenShadow
written_shadow r shadow = record { refusal = r; shadow = shadow }

-- "a write stores the value modulo 16"
abbrev pub write_shadow : Machine → (shadow : List ℕ) → (place value : ℕ) → WrittenShadow
write_shadow m shadow place value =
    let refusal = refusal_shadow m shadow place in
    cond (refuses refusal) (written_shadow refusal shadow)
    (written_shadow accepted (set shadow place (value % 16)))
