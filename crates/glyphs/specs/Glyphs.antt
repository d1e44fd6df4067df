-- Document 01, "Dots": the glyph table.
use Rattle.std.specs.Prelude.{ℕ, ◌+◌, ◌*◌, ◌<◌, ◌≡◌, List, [], Option, Some, None, Result, Ok, Err, if◌then◌else◌, ◌==◌, length, get_or, take, drop}
use Rattle.std.specs.Borrow.{Bor}
use Rattle.lent.specs.Lengths.{glyph_bytes}
use Rattle.lent.specs.Refusals.{accepted, refuses, length_refused, number_of}
use Rattle.lent.specs.declared.refusals.Refusal.{Refusal}

-- "Glyph byte: code times 16 plus scan address"
abbrev pub code_bytes : ℕ
code_bytes = 16

abbrev pub glyph_byte : (table : List ℕ) → (code address : ℕ) → ℕ
glyph_byte table code address = get_or table (code * code_bytes + address) 0

-- "The sixteen scan bytes of a code are handed back as that part of the caller's own table."
-- "A refusal returns its number, with .. a part of no bytes"
unfoldable pub glyph_part : (table : List ℕ) → (code : ℕ) → List ℕ
glyph_part table code =
    if length table == glyph_bytes then take code_bytes (drop (code * code_bytes) table) else []

-- the part begins so many bytes after the table's first
unfoldable pub part_start : (table : List ℕ) → (code : ℕ) → ℕ
part_start table code =
    if length table == glyph_bytes then code * code_bytes else 0

-- a slice: the block of memory that it lies in, how far from the block's start, and its bytes
pub record Slice : Type 0 where
  pub block : ℕ
  pub offset : ℕ
  pub bytes : List ℕ

abbrev pub slice : (at : ℕ × ℕ) → (bytes : List ℕ) → Slice
slice at bytes = record { block = at.0; offset = at.1; bytes = bytes }

-- the part lies in the table's own block
abbrev pub part_of : (at : ℕ × ℕ) → (table : List ℕ) → (code : ℕ) → Slice
part_of at table code =
    record { block = at.0; offset = at.1 + part_start table code; bytes = glyph_part table code }

-- the number of refusal that a part tells: 1 for a part of no bytes
unfoldable pub part_refusal : (part : List ℕ) → ℕ
part_refusal part = if length part == 0 then length_refused else accepted

-- what the call answers: its number of refusal and, unless it is refused, the part
pub record PartAnswer : Type 0 where
  pub refusal : ℕ
  pub part : Option Slice

abbrev pub part_answer : (at : ℕ × ℕ) → (table : List ℕ) → (code : ℕ) → PartAnswer
part_answer at table code =
    let refusal = part_refusal (glyph_part table code) in
    record { refusal = refusal; part = if refuses refusal then None else Some (part_of at table code) }

abbrev pub told_part : Result (Bor (List ℕ)) Refusal → PartAnswer
told_part (Ok part) = record { refusal = accepted; part = Some (slice part.ref_ptr part.now) }
told_part (Err refusal) = record { refusal = number_of refusal; part = None }

-- a part tells its own call's refusal, "1: a lent buffer's length differs from the list"
abbrev pub TellsItsRefusal : Type 0
TellsItsRefusal =
    (table : List ℕ) (code : ℕ) → code < 256
    → part_refusal (glyph_part table code) ≡ (if length table == glyph_bytes then accepted else length_refused)

-- the part's bytes are the glyph bytes of the code, by scan address
abbrev pub HoldsTheScans : Type 0
HoldsTheScans =
    (table : List ℕ) (code address : ℕ) → length table ≡ glyph_bytes → address < code_bytes
    → get_or (glyph_part table code) address 0 ≡ glyph_byte table code address
