-- Document 02, ticket 6: the answer as numbers, which C is handed. 01: "If an answer is an enum, a definition gives this
-- paper's number and values for each of its cases."
use Rattle.std.specs.Prelude.{ℕ, Bool, true, false, Option, Some, None, Result, Ok, Err}
use Rattle.lent.specs.Refusals.{accepted}
use Rattle.explaining.specs.declared.Why.{Why}
use Rattle.explaining.specs.declared.Why.TheVariants.{Cell, Fill, Past, Dark}
use Rattle.explaining.specs.declared.Explained.{Explained}

-- "the place of the low link byte that led to the row, or that it is row 0", as a flag and a number
abbrev pub is_link : Option ℕ → Bool
is_link None = false
is_link (Some place) = true

abbrev pub link_place : Option ℕ → ℕ
link_place None = 0
link_place (Some place) = place

abbrev pub numbers : (refusal answer place kind tore : ℕ) → Option ℕ → Explained
numbers refusal answer place kind tore led =
    record {
      refusal = refusal;
      answer = answer;
      place = place;
      kind = kind;
      tore = tore;
      linked = is_link led;
      link = link_place led;
    }

-- "answer one of", in the ticket's order
abbrev pub cell_answer : ℕ
cell_answer = 1

abbrev pub fill_answer : ℕ
fill_answer = 2

abbrev pub past_answer : ℕ
past_answer = 3

abbrev pub dark_answer : ℕ
dark_answer = 4

-- what an answer does not have is 0. "A refusal returns its number, with .. all other numbers 0, no row named"
abbrev pub told : Result Why ℕ → Explained
told (Ok (Cell place kind led)) = numbers accepted cell_answer place kind 0 led
told (Ok (Fill place led)) = numbers accepted fill_answer place 0 0 led
told (Ok (Past led)) = numbers accepted past_answer 0 0 0 led
told (Ok (Dark tore)) = numbers accepted dark_answer 0 0 tore None
told (Err refusal) = numbers refusal 0 0 0 0 None
