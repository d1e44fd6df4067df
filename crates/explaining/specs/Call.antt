-- Document 02, ticket 6: the call.
use Rattle.std.specs.Prelude.{ℕ, List, [], ◌∷◌, Bool, not, cond, ◌&&◌, length, eqb, ltb, Result, Ok, Err}
use Rattle.lent.specs.Lengths.{screen_bytes, attribute_bytes}
use Rattle.lent.specs.Refusals.{refuses, length_refused, place_refused, number_of, refusal_of}
use Rattle.lent.specs.declared.refusals.Refusal.{Refusal}
use Rattle.machine.specs.declared.Machine.{Machine}
use Rattle.chain.specs.Chain.{rows}
use Rattle.records.specs.Record.{record_pairs}
use Rattle.picture.specs.Draw.{chain_of}
use Rattle.explaining.specs.Explain.{why}
use Rattle.explaining.specs.declared.Why.{Why}

-- "Refusals: 5 also for a column over 131", beside a row over 24
unfoldable pub on_screen : (row column : ℕ) → Bool
on_screen row column = ltb row rows && ltb column record_pairs

-- by what the call is refused
abbrev pub refusal_explain : (screen attribute : List ℕ) → (row column : ℕ) → ℕ
refusal_explain screen attribute row column =
    refusal_of
    ((length_refused, not (eqb (length screen) screen_bytes && eqb (length attribute) attribute_bytes))
    ∷ (place_refused, not (on_screen row column))
    ∷ [])

-- an answer, or the refusal's number
abbrev pub in_numbers : Result Why Refusal → Result Why ℕ
in_numbers (Ok answer) = Ok answer
in_numbers (Err refusal) = Err (number_of refusal)

abbrev pub explain : Machine → (screen attribute : List ℕ) → (row column : ℕ) → Result Why ℕ
explain m screen attribute row column =
    let refusal = refusal_explain screen attribute row column in
    cond (refuses refusal) (Err refusal) (Ok (why (chain_of m screen attribute) row column))
