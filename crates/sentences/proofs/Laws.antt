-- Laws about the text of an answer: the chain that it tells goes on clause by clause, up to a row of the screen.
use Rattle.std.proofs.Common.{ℕ, ◌+◌, ◌<◌, ◌≡◌, List, ◌++◌, length, arith, add-one}
use Rattle.std.proofs.lemmas.List.Edits.{sets}
use Rattle.std.proofs.lemmas.Grind.{common_steps}
use Rattle.std.specs.Prelude.{Result}
use Rattle.chain.specs.Chain.{Chain, rows}
use Rattle.lent.specs.Lengths.{screen_bytes, attribute_bytes}
use Rattle.lent.specs.Refusals.{accepted}
use Rattle.machine.specs.declared.Machine.{Machine}
use Rattle.records.specs.Record.{record_pairs}
use Rattle.picture.specs.Draw.{chain_of}
use Rattle.explaining.specs.Call.{on_screen}
use Rattle.explaining.specs.Explain.{reached, why}
use Rattle.explaining.specs.Shown.{Holds}
use Rattle.explaining.specs.declared.Reached.{Reached}
use Rattle.explaining.specs.declared.Why.{Why}
use Rattle.explaining.specs.declared.Why.TheVariants.{Cell, Fill, Past, Dark}
use Rattle.explaining.proofs.Shown.{exactly_when_true}
use Rattle.sentences.specs.Sentences.{link_clause, clauses_to, last_row, both_sentences, text_of, said_by, say}

-- one clause more
pub clause_more :
    (c : Chain) (row : ℕ) {r : Result Reached ℕ} → r ≡ reached c (row + 1)
    → clauses_to c (row + 1) ≡ clauses_to c row ++ link_clause (row + 1) r
unfolding clauses_to
clause_more c row is = rw (is, add-one row)

-- the last row that is told stands on the screen
pub last_on_screen : (c : Chain) (row column : ℕ) → row < rows → last_row row (why c row column) < rows
last_on_screen c row column on = told (why c row column) (exactly_when_true c row column on).0
  where
    told : (answer : Why) → Holds c row column answer → last_row row answer < rows
    told (Cell place kind led) h = on
    told (Fill place led) h = on
    told (Past led) h = on
    told (Dark tore) h = omega (arith, h.ahead)

-- what saying leaves where the call is not refused
pub all_said :
    (m : Machine) (screen attribute : List ℕ) (row column : ℕ) (text : List ℕ) → length screen ≡ screen_bytes
    → length attribute ≡ attribute_bytes → row < rows → column < record_pairs
    → let c = chain_of m screen attribute in
    let words = both_sentences c row column (why c row column) in
    said_by accepted (length words) (sets text 0 words) ≡ say m screen attribute row column text
unfolding say text_of on_screen
all_said m screen attribute row column text long longer on_row in_column =
    grind (arith, common_steps)
