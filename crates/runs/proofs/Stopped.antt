-- A stopped processor touches nothing: the statement of specs/Stopped.antt.
use Prim.Native.Nat.{ℕ}
use mathlib.Core.Path.{◌≡◌, refl, sym, ap, ◌∙◌}
use mathlib.Core.List.{List, [], ◌∷◌}
use mathlib.Core.Bool.{Bool, true, false, not, cond, ◌||◌, false≢true, and-eq-true_iff}
use lib.ListN.{length}
use lib.Dec.{eqb}
use borrow.Author.Tests.{eqb-true, not-true}
use Rattle.lent.specs.Lengths.{shadow_bytes}
use Rattle.lent.specs.Refusals.{refuses, length_refused, in_reset_refused}
use Rattle.lent.specs.declared.ByteRead.{ByteRead}
use Rattle.machine.specs.Settings.{z80_runs}
use Rattle.machine.specs.Written.{refused}
use Rattle.memories.specs.View8088.{refused_access}
use Rattle.memories.specs.ViewZ80.{lengths_z80, refusal_z80}
use Rattle.memories.proofs.Laws.{access_in_reset, refusal_held, store_refusal}
use Rattle.shadow.specs.Shadow.{refusal_shadow}
use Rattle.shadow.proofs.Laws.{place_in_reset}
use Rattle.diagnostic.specs.Diagnostic.{WrittenPort, written_port}
use Rattle.ports.specs.Ports.{lengths_nvm}
use Rattle.ports.proofs.Laws.{port_in_reset}
use Rattle.runs.specs.World.{Shared, Private, Screen, Attribute, Nvm, Shadow, World, Call, Read8088, Store8088, ReadZ80, StoreZ80, ReadShadow, WriteShadow, WritePort, VerticalTick, WatchdogTick, Draw, StoreWithPicture, IndexReaders, StoreWithIndex, DrawForViewers, StoreForViewers, StoreWithIndexForViewers, Ask, GlyphPart, DrawLine, ListLines, Explain, answer}
use Rattle.runs.specs.Z80.{is_z80}
use Rattle.runs.specs.Kept.{lending, Step, Made, Lending, stepped}
use Rattle.runs.specs.Stopped.{Processor, The8088, TheZ80, is_8088, is_of, is_stopped, stop_number, call_of, answer_of, stepped_all, stopped_at, stopped_at_its_calls, answers_of, all_stopped, without, StoppedTouchesNothing}
use Rattle.runs.proofs.Worlds.{mends_refusal, picture_mends, index_mends}
use Rattle.runs.proofs.Refused.{changes_nothing}
use Rattle.runs.proofs.Sees.{told, z80_told, shadow_told}
use Rattle.runs.proofs.Z80.{of_z80}
use Rattle.runs.proofs.Kept.{lending_stays}

-- the number of the stop, or 1
abbrev stop_or_one : Processor → ℕ → Bool
stop_or_one p number = eqb number (stop_number p) || eqb number length_refused

one_of_both : (p : Processor) (lengths : Bool) (number : ℕ) → number ≡ cond lengths (stop_number p) length_refused → stop_or_one p number ≡ true
one_of_both p lengths number e = rw e (go p lengths)
  where
    go : (p : Processor) (right : Bool) → stop_or_one p (cond right (stop_number p) length_refused) ≡ true
    go The8088 true = refl
    go The8088 false = refl
    go TheZ80 true = refl
    go TheZ80 false = refl

-- the number that a call of the Z80 answers is that of its refusal
z80_stopped : (call : Call) (w : World) → is_z80 call ≡ true → z80_runs w.machine ≡ false → stop_or_one TheZ80 (answer call w).refusal ≡ true
z80_stopped call w is held =
    one_of_both TheZ80 (lengths_z80 (length (w.bytes Private)) (length (w.bytes Shared))) _
    (of_z80 (λ (one : Call). (answer one w).refusal ≡ refusal) (λ a. told (λ (read : ByteRead). read.refusal) refusal _ _ refl refl)
    (λ a b. z80_told w.machine a b (w.bytes Private) (w.bytes Shared)) call is
    ∙ refusal_held w.machine (length (w.bytes Private)) (length (w.bytes Shared)) held)
  where
    refusal : ℕ
    refusal = refusal_z80 w.machine (length (w.bytes Private)) (length (w.bytes Shared))

-- and so is that of each access of the 8088
module _ (w : World) (reset : w.machine.reset ≡ true) where
  abbrev Stopped : Call → Type 0
  Stopped call = stop_or_one The8088 (answer call w).refusal ≡ true

  -- to a memory, with these lengths
  by_access : (lengths : Bool) (a number : ℕ) → number ≡ refused_access w.machine lengths a → stop_or_one The8088 number ≡ true
  by_access lengths a number e = one_of_both The8088 lengths number (e ∙ access_in_reset w.machine lengths a reset)

  -- to the shadow
  by_place : (p number : ℕ) → number ≡ refusal_shadow w.machine (w.bytes Shadow) p → stop_or_one The8088 number ≡ true
  by_place p number e =
      one_of_both The8088 (eqb (length (w.bytes Shadow)) shadow_bytes) number (e ∙ place_in_reset w.machine _ p reset)

  -- to a port
  by_port : (p k : ℕ) → Stopped (WritePort p k)
  by_port p k =
      let e = port_in_reset w.machine (length (w.bytes Shadow)) (length (w.bytes Nvm)) p reset in
      rw e (go (lengths_nvm (length (w.bytes Shadow)) (length (w.bytes Nvm))) _)
    where
      go :
          (right : Bool) (other : WrittenPort)
          → let number = cond right in_reset_refused length_refused in
          stop_or_one The8088
          (cond (refuses number) (written_port (refused number w.machine) (w.bytes Shadow) (w.bytes Nvm)) other).answer.refusal
          ≡ true
      go true other = refl
      go false other = refl

  stopped_8088 : (call : Call) → is_8088 call ≡ true → Stopped call
  stopped_8088 (Read8088 a) is = by_access _ a _ (told (λ (read : ByteRead). read.refusal) _ _ _ refl refl)
  stopped_8088 (Store8088 a b) is =
      by_access _ a _ (store_refusal w.machine (w.bytes Shared) (w.bytes Screen) (w.bytes Attribute) a b)
  stopped_8088 (StoreWithPicture a b) is = by_access _ a _ (mends_refusal (picture_mends a b w))
  stopped_8088 (StoreForViewers a b) is = by_access _ a _ (mends_refusal (picture_mends a b w))
  stopped_8088 (StoreWithIndex a b) is = by_access _ a _ (mends_refusal (index_mends a b w))
  stopped_8088 (StoreWithIndexForViewers a b) is = by_access _ a _ (mends_refusal (index_mends a b w))
  stopped_8088 (ReadShadow p) is = by_place p _ (told (λ (read : ByteRead). read.refusal) _ _ _ refl refl)
  stopped_8088 (WriteShadow p b) is = by_place p _ (shadow_told w.machine p b (w.bytes Shadow))
  stopped_8088 (WritePort p k) is = by_port p k
  stopped_8088 (ReadZ80 a) is = absurd (false≢true is)
  stopped_8088 (StoreZ80 a b) is = absurd (false≢true is)
  stopped_8088 VerticalTick is = absurd (false≢true is)
  stopped_8088 WatchdogTick is = absurd (false≢true is)
  stopped_8088 Draw is = absurd (false≢true is)
  stopped_8088 DrawForViewers is = absurd (false≢true is)
  stopped_8088 IndexReaders is = absurd (false≢true is)
  stopped_8088 (Ask n) is = absurd (false≢true is)
  stopped_8088 (GlyphPart k) is = absurd (false≢true is)
  stopped_8088 (DrawLine r s) is = absurd (false≢true is)
  stopped_8088 ListLines is = absurd (false≢true is)
  stopped_8088 (Explain r k) is = absurd (false≢true is)

stopped : (p : Processor) (call : Call) (w : World) → is_of p call ≡ true → is_stopped p w.machine ≡ true → stop_or_one p (answer call w).refusal ≡ true
stopped The8088 call w is stops = stopped_8088 w stops call is
stopped TheZ80 call w is stops = z80_stopped call w is (not-true (z80_runs w.machine) stops)

is_refused : (p : Processor) (number : ℕ) → stop_or_one p number ≡ true → refuses number ≡ true
is_refused p number h = go p (eqb number (stop_number p)) refl h
  where
    go : (p : Processor) (stop : Bool) → eqb number (stop_number p) ≡ stop → stop || eqb number length_refused ≡ true → refuses number ≡ true
    go The8088 true e h = rw (eqb-true number (stop_number The8088) e)
    go TheZ80 true e h = rw (eqb-true number (stop_number TheZ80) e)
    go p false e h = rw (eqb-true number length_refused h)

-- a step that is refused leaves the world that is kept
pub step_refused : (step : Step) (w : World) → refuses (answer_of step w).refusal ≡ true → stepped step w ≡ w
step_refused (Made call) w r = (changes_nothing call w (λ e. false≢true (sym (ap refuses e) ∙ r))).0
step_refused (Lending lent call) w r = lending_stays lent call w r

-- a step of a processor while it is stopped
module _ (p : Processor) (step : Step) (w : World) (is : is_of p (call_of step) ≡ true) (stops : is_stopped p w.machine ≡ true) where
  pub step_answers : stop_or_one p (answer_of step w).refusal ≡ true
  step_answers = go step is
    where
      go : (one : Step) → is_of p (call_of one) ≡ true → stop_or_one p (answer_of one w).refusal ≡ true
      go (Made call) z = stopped p call w z stops
      go (Lending lent call) z = stopped p call (lending lent w) z stops

  pub step_stays : stepped step w ≡ w
  step_stays = step_refused step w (is_refused p (answer_of step w).refusal step_answers)

-- what is asked of a run is asked of its first step, and of the later ones
pub first_and_later :
    (p : Processor) (step : Step) (steps : List Step) (w : World) → stopped_at_its_calls p (step ∷ steps) w ≡ true
    → (is_of p (call_of step) ≡ true → is_stopped p w.machine ≡ true) × (stopped_at_its_calls p steps (stepped step w) ≡ true)
first_and_later p step steps w h =
    let both = (and-eq-true_iff (stopped_at p step w) (stopped_at_its_calls p steps (stepped step w))).0 h in
    (λ is. go (is_of p (call_of step)) is both.0, both.1)
  where
    go : (z : Bool) → z ≡ true → not z || is_stopped p w.machine ≡ true → is_stopped p w.machine ≡ true
    go true e f = f
    go false e f = absurd (false≢true e)

as_without :
    (p : Processor) (steps : List Step) (w : World) → stopped_at_its_calls p steps w ≡ true
    → stepped_all steps w ≡ stepped_all (without p steps) w
as_without p [] w h = refl
as_without p (step ∷ steps) w h =
    let asked = first_and_later p step steps w h in
    go asked.0 (as_without p steps (stepped step w) asked.1) (is_of p (call_of step)) refl
  where
    go :
        (is_of p (call_of step) ≡ true → is_stopped p w.machine ≡ true)
        → stepped_all steps (stepped step w) ≡ stepped_all (without p steps) (stepped step w)
        → (z : Bool) → is_of p (call_of step) ≡ z
        → stepped_all steps (stepped step w) ≡ stepped_all (cond z (without p steps) (step ∷ without p steps)) w
    go stops later true is = later ∙ ap (stepped_all (without p steps)) (step_stays p step w is (stops is))
    go stops later false is = later

all_refused : (p : Processor) (steps : List Step) (w : World) → stopped_at_its_calls p steps w ≡ true → all_stopped p (answers_of p steps w) ≡ true
all_refused p [] w h = refl
all_refused p (step ∷ steps) w h =
    let asked = first_and_later p step steps w h in
    go asked.0 (all_refused p steps (stepped step w) asked.1) (is_of p (call_of step)) refl
  where
    go :
        (is_of p (call_of step) ≡ true → is_stopped p w.machine ≡ true) → all_stopped p (answers_of p steps (stepped step w)) ≡ true
        → (z : Bool) → is_of p (call_of step) ≡ z
        → all_stopped p (cond z (answer_of step w ∷ answers_of p steps (stepped step w)) (answers_of p steps (stepped step w))) ≡ true
    go stops later true is = rw (step_answers p step w is (stops is)) later
    go stops later false is = later

pub stopped_touches_nothing : StoppedTouchesNothing
stopped_touches_nothing p steps w h = record { as_without = as_without p steps w h; refused = all_refused p steps w h }
