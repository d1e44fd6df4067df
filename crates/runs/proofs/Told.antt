-- That what a call tells in numbers is told of one outcome alone: a drawing, a store, an ask and a list of rows.
use Prim.Native.Nat.{ℕ}
use mathlib.Core.Path.{◌≡◌, refl, ap}
use mathlib.Core.Bool.{cond}
use Rattle.std.specs.Prelude.{Option, Some, None, Result, Ok, Err}
use Rattle.lent.specs.declared.refusals.Refusal.{Refusal}
use Rattle.lent.proofs.Told.{one_alone, outcome_at, refused_at}
use Rattle.picture.specs.Wild.{is_named, row_named}
use Rattle.picture.specs.Draw.{drawing_answered}
use Rattle.picture.specs.declared.Drawing.{Drawing}
use Rattle.picture.specs.declared.Drawn.{Drawn}
use Rattle.mending.specs.Store.{store_answered}
use Rattle.mending.specs.declared.Stored.{Stored}
use Rattle.viewers.specs.Viewers.{ask_answered}
use Rattle.viewers.specs.Serving.{drawing_served, store_served}
use Rattle.viewers.specs.declared.Asked.{Asked}
use Rattle.viewers.specs.declared.DrawnForViewers.{DrawnForViewers}
use Rattle.viewers.specs.declared.StoredForViewers.{StoredForViewers}
use Rattle.viewers.specs.declared.Viewers.{Viewers}
use Rattle.listing.specs.Listing.{Answer}
use Rattle.listing.specs.declared.Listed.{Listed}

abbrev drawing_at : Drawn → Drawing
drawing_at told = record { reads = told.reads; wild = cond told.wild (Some told.wild_row) None }

wild_back : (wild : Option ℕ) → cond (is_named wild) (Some (row_named wild)) None ≡ wild
wild_back (Some row) = refl
wild_back None = refl

drawing_back :
    (outcome : Result Drawing Refusal)
    → outcome_at (drawing_answered outcome).refusal (drawing_at (drawing_answered outcome)) ≡ outcome
drawing_back (Ok drawing) =
    let with_wild : Option ℕ → Result Drawing Refusal = λ wild. Ok (record { reads = drawing.reads; wild = wild }) in
    ap with_wild (wild_back drawing.wild)
drawing_back (Err refusal) = refused_at refusal _

pub drawing_alone : {one other : Result Drawing Refusal} → drawing_answered one ≡ drawing_answered other → one ≡ other
drawing_alone = one_alone (λ (told : Drawn). outcome_at told.refusal (drawing_at told)) drawing_back

store_back :
    (outcome : Result ℕ Refusal) → outcome_at (store_answered outcome).refusal (store_answered outcome).marks ≡ outcome
store_back (Ok marks) = refl
store_back (Err refusal) = refused_at refusal 0

pub store_alone : {one other : Result ℕ Refusal} → store_answered one ≡ store_answered other → one ≡ other
store_alone = one_alone (λ (told : Stored). outcome_at told.refusal told.marks) store_back

-- the same with the viewers that are handed back, of the viewers before it
module _ (before : Viewers) where
  abbrev asked_at : Asked → Result (ℕ × Viewers) Refusal
  asked_at told = let value : ℕ × Viewers = (told.marks, told.viewers) in outcome_at told.refusal value

  asked_back : (outcome : Result (ℕ × Viewers) Refusal) → asked_at (ask_answered before outcome) ≡ outcome
  asked_back (Ok value) = refl
  asked_back (Err refusal) = refused_at refusal _

  pub asked_alone : {one other : Result (ℕ × Viewers) Refusal} → ask_answered before one ≡ ask_answered before other → one ≡ other
  asked_alone = one_alone asked_at asked_back

  abbrev stored_at : StoredForViewers → Result (ℕ × Viewers) Refusal
  stored_at told = let value : ℕ × Viewers = (told.stored.marks, told.viewers) in outcome_at told.stored.refusal value

  stored_back : (outcome : Result (ℕ × Viewers) Refusal) → stored_at (store_served before outcome) ≡ outcome
  stored_back (Ok value) = refl
  stored_back (Err refusal) = refused_at refusal _

  pub served_alone : {one other : Result (ℕ × Viewers) Refusal} → store_served before one ≡ store_served before other → one ≡ other
  served_alone = one_alone stored_at stored_back

  abbrev drawn_at : DrawnForViewers → Result (Drawing × Viewers) Refusal
  drawn_at told =
      let value : Drawing × Viewers = (drawing_at told.drawn, told.viewers) in outcome_at told.drawn.refusal value

  drawn_back : (outcome : Result (Drawing × Viewers) Refusal) → drawn_at (drawing_served before outcome) ≡ outcome
  drawn_back (Ok value) =
      let with_wild : Option ℕ → Result (Drawing × Viewers) Refusal =
      λ wild. Ok (record { reads = value.0.reads; wild = wild }, value.1) in
      ap with_wild (wild_back value.0.wild)
  drawn_back (Err refusal) = refused_at refusal _

  pub drawn_alone :
      {one other : Result (Drawing × Viewers) Refusal} → drawing_served before one ≡ drawing_served before other → one ≡ other
  drawn_alone = one_alone drawn_at drawn_back

-- the rows that are listed, with the drawing's answer
abbrev pub listed_answer : Listed → Answer
listed_answer listed = record { bytes = listed.bytes; drawn = drawing_answered listed.drawn }

abbrev listed_at : Answer → Listed
listed_at told = record { bytes = told.bytes; drawn = outcome_at told.drawn.refusal (drawing_at told.drawn) }

listed_back : (answer : Listed) → listed_at (listed_answer answer) ≡ answer
listed_back answer =
    let with_drawn : Result Drawing Refusal → Listed = λ drawn. record { bytes = answer.bytes; drawn = drawn } in
    ap with_drawn (drawing_back answer.drawn)

pub listed_alone : {one other : Listed} → listed_answer one ≡ listed_answer other → one ≡ other
listed_alone = one_alone listed_at listed_back
