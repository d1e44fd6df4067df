-- Document 01, "The picture" and "The chain of lines", and document 02, ticket 1: the drawing call.
use Rattle.std.specs.Prelude.{ℕ, List, [], ◌∷◌, Bool, false, not, Option, Result, Ok, Err, if◌then◌else◌, ◌&&◌, length, ◌==◌}
use Rattle.lent.specs.Lengths.{screen_bytes, attribute_bytes, picture_bytes}
use Rattle.lent.specs.Refusals.{accepted, refuses, length_refused, number_of, refusal_of}
use Rattle.lent.specs.declared.refusals.Refusal.{Refusal}
use Rattle.machine.specs.Settings.{columns}
use Rattle.machine.specs.declared.Machine.{Machine}
use Rattle.chain.specs.Chain.{Chain, chain}
use Rattle.chain.specs.Reading.{walk_reads}
use Rattle.picture.specs.Picture.{picture_of}
use Rattle.picture.specs.Wild.{first_wild, is_named, row_named}
use Rattle.picture.specs.declared.Drawn.{Drawn}
use Rattle.picture.specs.declared.Drawing.{Drawing}

-- the three lengths are those of the list
unfoldable pub lengths_picture : ℕ → ℕ → ℕ → Bool
lengths_picture screen attribute picture =
    screen == screen_bytes && (attribute == attribute_bytes && picture == picture_bytes)

-- what a drawing leaves: its answer and the picture
pub record DrawnPicture : Type 0 where
  pub answer : Drawn
  pub picture : List ℕ

abbrev pub drawn : Drawn → List ℕ → DrawnPicture
drawn answer picture = record { answer = answer; picture = picture }

-- by what a drawing is refused
abbrev pub refusal_drawing : (screen attribute picture : List ℕ) → ℕ
refusal_drawing screen attribute picture =
    refusal_of ((length_refused, not (lengths_picture (length screen) (length attribute) (length picture))) ∷ [])

-- "A refusal returns its number, with .. read count and all other numbers 0, no row named"
abbrev pub refused_answer : (refusal : ℕ) → Drawn
refused_answer refusal = record { refusal = refusal; reads = 0; wild = false; wild_row = 0 }

-- "all buffers .. stay"
abbrev pub refuse_drawing : (refusal : ℕ) → (picture : List ℕ) → DrawnPicture
refuse_drawing refusal = drawn (refused_answer refusal)

-- the first wild row as a flag and a number
abbrev pub accepted_answer : (reads : ℕ) → Option ℕ → Drawn
accepted_answer reads first =
    record { refusal = accepted; reads = reads; wild = is_named first; wild_row = row_named first }

-- the numbers of what a drawing answers
abbrev pub drawing_answered : Result Drawing Refusal → Drawn
drawing_answered (Ok drawing) = accepted_answer drawing.reads drawing.wild
drawing_answered (Err refusal) = refused_answer (number_of refusal)

-- the chain that the machine's column setting and the two memories make
abbrev pub chain_of : Machine → List ℕ → List ℕ → Chain
chain_of m screen attribute = chain (columns m) screen attribute

-- "The drawing call reports the bytes of screen memory that the walk reads"; 02, ticket 1: "each drawing should name
-- the first such row, or none"
abbrev pub answer_of : Chain → Drawn
answer_of c = accepted_answer (walk_reads c) (first_wild c)

abbrev pub draw : Machine → (screen attribute picture : List ℕ) → DrawnPicture
draw m screen attribute picture =
    let refusal = refusal_drawing screen attribute picture in
    if refuses refusal
    then refuse_drawing refusal picture
    else drawn (answer_of (chain_of m screen attribute)) (picture_of (chain_of m screen attribute))
