-- Document 02, ticket 7: a viewer that keeps its own copy of the picture, and at each ask takes into it the records that
-- it is told, has the kept picture. This is what a tablet in the office does.
use Rattle.std.specs.Prelude.{ℕ, ◌<◌, ◌≡◌, List, [], ◌∷◌, ◌++◌, Bool, true, not, cond, ◌&&◌, ◌||◌, length, get_or}
use Rattle.lent.specs.Lengths.{picture_bytes}
use Rattle.lent.specs.Refusals.{accepted}
use Rattle.chain.specs.Chain.{rows}
use Rattle.picture.specs.Picture.{picture_of, in_order, record_in}
use Rattle.picture.specs.Draw.{chain_of}
use Rattle.marks.specs.Marks.{bit_set}
use Rattle.viewers.specs.Viewers.{viewers, start}
use Rattle.runs.specs.World.{Screen, Attribute, Picture, World, Call, IndexReaders, DrawForViewers, Ask, answer}
use Rattle.runs.specs.Reach.{TheViewers, AllOf, may_change}
use Rattle.runs.specs.Kept.{Step, Made, stepped, same_columns, Serving, Keeps, redrawn, played_all, all_in_runs}
use Rattle.runs.specs.Stopped.{call_of, answer_of, stepped_all}
use Rattle.runs.specs.Viewers.{event_of, is_ask_of}

-- the marked records of the kept picture, and the other records of the copy
abbrev pub repainted : (marks : ℕ) → (kept copy : List ℕ) → List ℕ
repainted marks kept copy = in_order (λ row. cond (bit_set marks row) (record_in kept row) (record_in copy row)) rows

-- what a step makes of a viewer's copy: its own ask repaints it
abbrev pub copied : (viewer : ℕ) → Step → World → (copy : List ℕ) → List ℕ
copied viewer step w copy =
    cond (is_ask_of viewer (event_of (call_of step) []))
    (repainted (get_or (answer_of step w).numbers 0 0) (w.bytes Picture) copy) copy

abbrev pub copied_all : (viewer : ℕ) → List Step → World → (copy : List ℕ) → List ℕ
copied_all viewer [] w copy = copy
copied_all viewer (step ∷ steps) w copy = copied_all viewer steps (stepped step w) (copied viewer step w copy)

-- a call that may change the picture takes the viewers
abbrev pub serves : Call → Bool
serves call = not (may_change call (AllOf Picture)) || may_change call TheViewers

abbrev pub all_serve : List Step → Bool
all_serve [] = true
all_serve (step ∷ steps) = serves (call_of step) && all_serve steps

-- After any run from the start a viewer that asks has the kept picture, whatever its copy held at first. What is left
-- out: runs with a drawing or a store for one screen alone, which change the picture and tell no viewer; and a picture
-- of another length, which every call that is lent it refuses
abbrev pub RepaintsRight : Type 0
RepaintsRight =
    (viewer : ℕ) (steps : List Step) (w : World) (copy : List ℕ) → viewer < viewers → w.viewers ≡ start
    → length (w.bytes Picture) ≡ picture_bytes → all_serve steps ≡ true
    → let last = stepped_all steps w in
    copied viewer (Made (Ask viewer)) last (copied_all viewer steps w copy) ≡ last.bytes Picture

-- a caller who redraws with the drawing that serves viewers, and keeps an index too or none
abbrev pub serving : (indexed : Bool) → Keeps
serving indexed = record { drawing = Serving; indexed = indexed }

-- the calls with which it redraws
abbrev pub redraws : (indexed : Bool) → List Step
redraws indexed = Made DrawForViewers ∷ cond indexed (Made IndexReaders ∷ []) []

-- a run with the drawings written out that are made "at once after each change of column setting"
abbrev pub with_redraws : (indexed : Bool) → List Step → World → List Step
with_redraws indexed [] w = []
with_redraws indexed (step ∷ steps) w =
    let new = stepped step w in
    let quiet = step ∷ with_redraws indexed steps new in
    let noisy = step ∷ (redraws indexed ++ with_redraws indexed steps (redrawn (serving indexed) new)) in
    cond (same_columns w new) quiet noisy

-- So, with the owner's third demand, it has the picture drawn afresh: from a drawing that serves viewers, and with such
-- a drawing at once after each change of the column setting, where an index is kept too or none
abbrev pub RepaintsFresh : Type 0
RepaintsFresh =
    (indexed : Bool) (viewer : ℕ) (steps : List Step) (w : World) (copy : List ℕ) → viewer < viewers
    → (answer DrawForViewers w).refusal ≡ accepted
    → let begun = redrawn (serving indexed) w in
    let last = played_all (serving indexed) steps begun in
    all_in_runs (serving indexed) steps begun ≡ true → all_serve steps ≡ true
    → copied viewer (Made (Ask viewer)) last (copied_all viewer (with_redraws indexed steps begun) begun copy)
    ≡ picture_of (chain_of last.machine (last.bytes Screen) (last.bytes Attribute))
