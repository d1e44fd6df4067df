-- Document 02, ticket 7: the marks that wait for each viewer, and what a viewer is told.
use Rattle.std.specs.Prelude.{ℕ, [], ◌∷◌, map, not, if◌then◌else◌, get_or, set, replicate, nat_lt, Result, Ok, Err}
use Rattle.lent.specs.Refusals.{accepted, refuses, viewer_refused, number_of, refusal_of}
use Rattle.lent.specs.declared.refusals.Refusal.{Refusal}
use Rattle.chain.specs.Chain.{rows}
use Rattle.marks.specs.Marks.{all_marked, joined}
use Rattle.viewers.specs.declared.Asked.{Asked}
use Rattle.viewers.specs.declared.Viewers.{Viewers}

-- "Keep a number of waiting marks for each of eight viewers"
abbrev pub viewers : ℕ
viewers = 8

-- "a fresh drawing, which sets all rows for all, as the start does"
abbrev pub start : Viewers
start = record { waiting = replicate viewers (all_marked rows) }

-- "a store adds its marks to all eight"
abbrev pub added : Viewers → (marks : ℕ) → Viewers
added v marks = record { waiting = map (λ (waits : ℕ). joined waits marks) v.waiting }

-- "Refusals: 10, a viewer over 7"
abbrev pub refusal_ask : (viewer : ℕ) → ℕ
refusal_ask viewer = refusal_of ((viewer_refused, not (nat_lt viewer viewers)) ∷ [])

-- a refusal has no marks, and changes nothing
abbrev pub refuse_ask : (refusal : ℕ) → Viewers → Asked
refuse_ask refusal v = record { refusal = refusal; marks = 0; viewers = v }

-- the numbers of what an ask answers: the marks and the viewers then, or a refusal
abbrev pub ask_answered : Viewers → Result (ℕ × Viewers) Refusal → Asked
ask_answered v (Ok told) = record { refusal = accepted; marks = told.0; viewers = told.1 }
ask_answered v (Err refusal) = refuse_ask (number_of refusal) v

-- "a viewer who asks is handed its own and is cleared"
abbrev pub hand_over : Viewers → (viewer : ℕ) → Asked
hand_over v viewer =
    record {
      refusal = accepted;
      marks = get_or v.waiting viewer 0;
      viewers = record { waiting = set v.waiting viewer 0 };
    }

abbrev pub ask : Viewers → (viewer : ℕ) → Asked
ask v viewer =
    let refusal = refusal_ask viewer in
    if refuses refusal then refuse_ask refusal v else hand_over v viewer
