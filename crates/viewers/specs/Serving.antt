-- Document 02, ticket 7: the drawing and the store that serve viewers; and the store of ticket 8, with an index, that
-- serves them. Each takes the viewers and gives them back, so that no caller can forget to pass the marks on.
use Rattle.std.specs.Prelude.{ℕ, List, if◌then◌else◌, Result, Ok, Err}
use Rattle.lent.specs.Refusals.{refuses}
use Rattle.lent.specs.declared.refusals.Refusal.{Refusal}
use Rattle.machine.specs.declared.Machine.{Machine}
use Rattle.picture.specs.Draw.{drawing_answered, draw}
use Rattle.picture.specs.declared.Drawing.{Drawing}
use Rattle.mending.specs.Store.{store_answered, store_with_picture}
use Rattle.mending.specs.declared.Stored.{Stored}
use Rattle.index.specs.Store.{store_with_index}
use Rattle.viewers.specs.Viewers.{start, added}
use Rattle.viewers.specs.declared.DrawnForViewers.{DrawnForViewers}
use Rattle.viewers.specs.declared.StoredForViewers.{StoredForViewers}
use Rattle.viewers.specs.declared.Viewers.{Viewers}

-- what such a drawing leaves: its answer, with the viewers, and the picture
pub record DrawnServing : Type 0 where
  pub answer : DrawnForViewers
  pub picture : List ℕ

abbrev pub drawn_serving : DrawnForViewers → List ℕ → DrawnServing
drawn_serving answer picture = record { answer = answer; picture = picture }

-- the numbers of what it answers: those of the drawing, and the viewers then
abbrev pub drawing_served : Viewers → Result (Drawing × Viewers) Refusal → DrawnForViewers
drawing_served v (Ok told) = record { drawn = drawing_answered (Ok told.0); viewers = told.1 }
drawing_served v (Err refusal) = record { drawn = drawing_answered (Err refusal); viewers = v }

-- "a fresh drawing, which sets all rows for all"; one that is refused sets none
abbrev pub draw_for_viewers : Machine → Viewers → (screen attribute picture : List ℕ) → DrawnServing
draw_for_viewers m v screen attribute picture =
    let left = draw m screen attribute picture in
    drawn_serving
    (record { drawn = left.answer; viewers = if refuses left.answer.refusal then v else start }) left.picture

-- what such a store leaves: its answer, with the viewers, the three memories and the picture
pub record StoredServing : Type 0 where
  pub answer : StoredForViewers
  pub shared : List ℕ
  pub screen : List ℕ
  pub attribute : List ℕ
  pub picture : List ℕ

abbrev pub stored_serving : StoredForViewers → (shared screen attribute picture : List ℕ) → StoredServing
stored_serving answer shared screen attribute picture =
    record { answer = answer; shared = shared; screen = screen; attribute = attribute; picture = picture }

-- the numbers of what it answers: those of the store, and the viewers then
abbrev pub store_served : Viewers → Result (ℕ × Viewers) Refusal → StoredForViewers
store_served v (Ok told) = record { stored = store_answered (Ok told.0); viewers = told.1 }
store_served v (Err refusal) = record { stored = store_answered (Err refusal); viewers = v }

-- "a store adds its marks to all eight"; one that is refused has none
abbrev pub served : Viewers → Stored → StoredForViewers
served v stored = record { stored = stored; viewers = added v stored.marks }

abbrev pub store_for_viewers :
    Machine → Viewers → (shared screen attribute picture : List ℕ) → (address byte : ℕ) → StoredServing
store_for_viewers m v shared screen attribute picture address byte =
    let left = store_with_picture m shared screen attribute picture address byte in
    stored_serving (served v left.answer) left.shared left.screen left.attribute left.picture

-- the same of a store with an index lent
pub record StoredServingIndex : Type 0 where
  pub answer : StoredForViewers
  pub shared : List ℕ
  pub screen : List ℕ
  pub attribute : List ℕ
  pub picture : List ℕ
  pub index : List ℕ

abbrev pub stored_serving_index :
    StoredForViewers → (shared screen attribute picture index : List ℕ) → StoredServingIndex
stored_serving_index answer shared screen attribute picture index =
    record {
      answer = answer;
      shared = shared;
      screen = screen;
      attribute = attribute;
      picture = picture;
      index = index;
    }

abbrev pub store_with_index_for_viewers :
    Machine → Viewers → (shared screen attribute picture index : List ℕ) → (address byte : ℕ) → StoredServingIndex
store_with_index_for_viewers m v shared screen attribute picture index address byte =
    let left = store_with_index m shared screen attribute picture index address byte in
    stored_serving_index (served v left.answer)
    left.shared left.screen left.attribute left.picture left.index
