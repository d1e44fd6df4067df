-- A held Z80 touches nothing: the statements of specs/Held.antt.
use Prim.Native.Nat.{ℕ}
use mathlib.Core.Path.{◌≡◌, refl, sym, ap, ◌∙◌}
use mathlib.Core.List.{List, [], ◌∷◌}
use mathlib.Core.Bool.{Bool, true, false, not, cond, ◌&&◌, ◌||◌, true≢false, false≢true, and-eq-true_iff}
use lib.ListN.{length}
use borrow.Author.Tests.{not-true}
use Rattle.lent.specs.Refusals.{refuses}
use Rattle.machine.specs.Settings.{z80_runs}
use Rattle.memories.specs.View8088.{seen_8088, refused_access}
use Rattle.memories.proofs.Laws.{accepted_right, store_refusal}
use Rattle.runs.specs.World.{Memory, Shared, Private, Screen, Attribute, World, Call, Read8088, Store8088, ReadZ80, StoreZ80, ReadShadow, WriteShadow, WritePort, VerticalTick, WatchdogTick, Draw, StoreWithPicture, IndexReaders, StoreWithIndex, DrawForViewers, StoreForViewers, StoreWithIndexForViewers, Ask, GlyphPart, DrawLine, ListLines, Explain, after, answer}
use Rattle.runs.specs.Reach.{InReset, AllOf, has, has_memory, Same, may_change}
use Rattle.runs.specs.Z80.{only_parts, only_memories, is_z80, CodeHas, SameLengths}
use Rattle.runs.specs.Kept.{Lent, Own, Another, lent_bytes, kept_bytes, lending, Step, Made, Lending, stepped}
use Rattle.runs.specs.Stopped.{TheZ80, is_stopped, call_of, answer_of, stepped_all, stopped_at_its_calls}
use Rattle.runs.specs.Held.{stores_shared, accepted_stores, out_of_reset, HeldTouchesNothing, NoneLetsItRun, HeldUntilLetRun}
use Rattle.runs.proofs.Worlds.{mends_refusal, picture_mends, index_mends}
use Rattle.runs.proofs.Reach.{stored_apart, changes_only, lengths_stay}
use Rattle.runs.proofs.Z80.{keeps_the_bit, stores_by_length, pictures_by_length, indexes_by_length}
use Rattle.runs.proofs.Stopped.{step_refused, step_stays, first_and_later, stopped_touches_nothing}

-- a step leaves the lengths, and each memory that its call may not change
pub step_lengths : (step : Step) (w : World) (memory : Memory) → length ((stepped step w).bytes memory) ≡ length (w.bytes memory)
step_lengths (Made call) w memory = lengths_stay call w memory
step_lengths (Lending lent call) w memory =
    go (lent memory) (w.bytes memory) ((after call (lending lent w)).bytes memory) (lengths_stay call (lending lent w) memory)
  where
    go : (one : Lent) (own new : List ℕ) → length new ≡ length (lent_bytes one own) → length (kept_bytes one own new) ≡ length own
    go Own own new e = e
    go (Another bytes) own new e = refl

pub step_leaves :
    (step : Step) (w : World) (memory : Memory) → may_change (call_of step) (AllOf memory) ≡ false
    → (stepped step w).bytes memory ≡ w.bytes memory
step_leaves (Made call) w memory h = changes_only call w (AllOf memory) h
step_leaves (Lending lent call) w memory h =
    go (lent memory) (w.bytes memory) ((after call (lending lent w)).bytes memory) (changes_only call (lending lent w) (AllOf memory) h)
  where
    go : (one : Lent) (own new : List ℕ) → new ≡ lent_bytes one own → kept_bytes one own new ≡ own
    go Own own new e = e
    go (Another bytes) own new e = refl

-- a call of another than the Z80 leaves its memory, and shared memory too if it is no store of the 8088 there
pub aside :
    (call : Call) → is_z80 call ≡ false
    → (may_change call (AllOf Private) ≡ false) × (stores_shared call ≡ false → may_change call (AllOf Shared) ≡ false)
unfolding only_parts only_memories has has_memory
aside (Store8088 a b) other = (stored_apart (seen_8088 a) (AllOf Private) refl, λ h. h)
aside (StoreWithPicture a b) other = (stored_apart (seen_8088 a) (AllOf Private) refl, λ h. h)
aside (StoreForViewers a b) other = (stored_apart (seen_8088 a) (AllOf Private) refl, λ h. h)
aside (StoreWithIndex a b) other = (stored_apart (seen_8088 a) (AllOf Private) refl, λ h. h)
aside (StoreWithIndexForViewers a b) other = (stored_apart (seen_8088 a) (AllOf Private) refl, λ h. h)
aside (ReadZ80 a) other = absurd (true≢false other)
aside (StoreZ80 a b) other = absurd (true≢false other)
aside (Read8088 a) other = (refl, λ _. refl)
aside (ReadShadow p) other = (refl, λ _. refl)
aside (WriteShadow p b) other = (refl, λ _. refl)
aside (WritePort p k) other = (refl, λ _. refl)
aside VerticalTick other = (refl, λ _. refl)
aside WatchdogTick other = (refl, λ _. refl)
aside Draw other = (refl, λ _. refl)
aside DrawForViewers other = (refl, λ _. refl)
aside IndexReaders other = (refl, λ _. refl)
aside (Ask n) other = (refl, λ _. refl)
aside (GlyphPart k) other = (refl, λ _. refl)
aside (DrawLine r s) other = (refl, λ _. refl)
aside ListLines other = (refl, λ _. refl)
aside (Explain r k) other = (refl, λ _. refl)

-- an accepted store of the 8088 is made out of reset; what it makes of shared memory goes by the lengths and by shared
-- memory; and it leaves the machine
module _ (w v : World) (out : v.machine.reset ≡ false) (lengths : SameLengths w v) (same : w.bytes Shared ≡ v.bytes Shared) where
  abbrev Alike : Call → Type 0
  Alike call = ((after call w).bytes Shared ≡ (after call v).bytes Shared) × ((after call v).machine.reset ≡ false)

  in_neither : (right : Bool) (a : ℕ) {refusal : ℕ} → refusal ≡ refused_access w.machine right a → refuses refusal ≡ false → Same InReset w v
  in_neither right a e accepts = (accepted_right w.machine right a (sym (ap refuses e) ∙ accepts)).1 ∙ sym out

  picture_alike : (a b : ℕ) → refuses (answer (StoreWithPicture a b) w).refusal ≡ false → Alike (StoreWithPicture a b)
  picture_alike a b accepts =
      (pictures_by_length a b w v (in_neither _ a (mends_refusal (picture_mends a b w)) accepts) lengths (AllOf Shared) same same, out)

  index_alike : (a b : ℕ) → refuses (answer (StoreWithIndex a b) w).refusal ≡ false → Alike (StoreWithIndex a b)
  index_alike a b accepts =
      (indexes_by_length a b w v (in_neither _ a (mends_refusal (index_mends a b w)) accepts) lengths (AllOf Shared) same same, out)

  store_alike : (call : Call) → stores_shared call ≡ true → refuses (answer call w).refusal ≡ false → Alike call
  unfolding has
  store_alike (Store8088 a b) is accepts =
      let refusal = store_refusal w.machine (w.bytes Shared) (w.bytes Screen) (w.bytes Attribute) a b in
      (stores_by_length a b w v (in_neither _ a refusal accepts) lengths (AllOf Shared) same, out)
  store_alike (StoreWithPicture a b) is accepts = picture_alike a b accepts
  store_alike (StoreForViewers a b) is accepts = picture_alike a b accepts
  store_alike (StoreWithIndex a b) is accepts = index_alike a b accepts
  store_alike (StoreWithIndexForViewers a b) is accepts = index_alike a b accepts
  store_alike (Read8088 a) is accepts = absurd (false≢true is)
  store_alike (ReadZ80 a) is accepts = absurd (false≢true is)
  store_alike (StoreZ80 a b) is accepts = absurd (false≢true is)
  store_alike (ReadShadow p) is accepts = absurd (false≢true is)
  store_alike (WriteShadow p b) is accepts = absurd (false≢true is)
  store_alike (WritePort p k) is accepts = absurd (false≢true is)
  store_alike VerticalTick is accepts = absurd (false≢true is)
  store_alike WatchdogTick is accepts = absurd (false≢true is)
  store_alike Draw is accepts = absurd (false≢true is)
  store_alike DrawForViewers is accepts = absurd (false≢true is)
  store_alike IndexReaders is accepts = absurd (false≢true is)
  store_alike (Ask n) is accepts = absurd (false≢true is)
  store_alike (GlyphPart k) is accepts = absurd (false≢true is)
  store_alike (DrawLine r s) is accepts = absurd (false≢true is)
  store_alike ListLines is accepts = absurd (false≢true is)
  store_alike (Explain r k) is accepts = absurd (false≢true is)

step_alike :
    (step : Step) (w v : World) → v.machine.reset ≡ false → SameLengths w v → w.bytes Shared ≡ v.bytes Shared
    → stores_shared (call_of step) ≡ true → refuses (answer_of step w).refusal ≡ false
    → ((stepped step w).bytes Shared ≡ (stepped step v).bytes Shared) × ((stepped step v).machine.reset ≡ false)
step_alike (Made call) w v out lengths same is accepts = store_alike w v out lengths same call is accepts
step_alike (Lending lent call) w v out lengths same is accepts =
    let alike =
    store_alike (lending lent w) (lending lent v) out
    (λ memory. as_long (lent memory) (w.bytes memory) (v.bytes memory) (lengths memory)) (ap (lent_bytes (lent Shared)) same) call is
    accepts in
    (kept (lent Shared) same alike.0, alike.1)
  where
    as_long : (one : Lent) (own other : List ℕ) → length own ≡ length other → length (lent_bytes one own) ≡ length (lent_bytes one other)
    as_long Own own other e = e
    as_long (Another bytes) own other e = refl

    kept :
        (one : Lent) {own other new new' : List ℕ} → own ≡ other → new ≡ new'
        → kept_bytes one own new ≡ kept_bytes one other new'
    kept Own e f = f
    kept (Another bytes) e f = e

abbrev Held : List Step → World → Type 0
Held steps w = stopped_at_its_calls TheZ80 steps w ≡ true

private_stays : (steps : List Step) (w : World) → Held steps w → (stepped_all steps w).bytes Private ≡ w.bytes Private
private_stays [] w h = refl
private_stays (step ∷ steps) w h =
    let asked = first_and_later TheZ80 step steps w h in
    private_stays steps (stepped step w) asked.1 ∙ go asked.0 (is_z80 (call_of step)) refl
  where
    go :
        (is_z80 (call_of step) ≡ true → is_stopped TheZ80 w.machine ≡ true) → (z : Bool) → is_z80 (call_of step) ≡ z
        → (stepped step w).bytes Private ≡ w.bytes Private
    go stops true is = ap (λ (u : World). u.bytes Private) (step_stays TheZ80 step w is (stops is))
    go stops false is = step_leaves step w Private (aside (call_of step) is).0

-- a step that the Z80 makes while it is held, or that is no accepted store of the 8088 into shared memory, leaves it
shared_stays :
    (step : Step) (w : World) → (is_z80 (call_of step) ≡ true → is_stopped TheZ80 w.machine ≡ true)
    → stores_shared (call_of step) && not (refuses (answer_of step w).refusal) ≡ false
    → (stepped step w).bytes Shared ≡ w.bytes Shared
shared_stays step w stops none = go (is_z80 (call_of step)) (stores_shared (call_of step)) (refuses (answer_of step w).refusal) refl refl refl none
  where
    same : stepped step w ≡ w → (stepped step w).bytes Shared ≡ w.bytes Shared
    same = ap (λ (u : World). u.bytes Shared)

    go :
        (z s r : Bool) → is_z80 (call_of step) ≡ z → stores_shared (call_of step) ≡ s → refuses (answer_of step w).refusal ≡ r
        → s && not r ≡ false → (stepped step w).bytes Shared ≡ w.bytes Shared
    go true s r e f g h = same (step_stays TheZ80 step w e (stops e))
    go false true true e f g h = same (step_refused step w g)
    go false true false e f g h = absurd (true≢false h)
    go false false r e f g h = step_leaves step w Shared ((aside (call_of step) e).1 f)

shared_by_stores :
    (steps : List Step) (w v : World) → Held steps w → v.machine.reset ≡ false → SameLengths w v → w.bytes Shared ≡ v.bytes Shared
    → (stepped_all steps w).bytes Shared ≡ (stepped_all (accepted_stores steps w) v).bytes Shared
shared_by_stores [] w v h out lengths same = same
shared_by_stores (step ∷ steps) w v h out lengths same =
    let asked = first_and_later TheZ80 step steps w h in
    go asked.0 (λ u. shared_by_stores steps (stepped step w) u asked.1) (stores_shared (call_of step) && not (refuses (answer_of step w).refusal)) refl
  where
    later : List Step
    later = accepted_stores steps (stepped step w)

    go :
        (is_z80 (call_of step) ≡ true → is_stopped TheZ80 w.machine ≡ true)
        → ((u : World) → u.machine.reset ≡ false → SameLengths (stepped step w) u → (stepped step w).bytes Shared ≡ u.bytes Shared
        → (stepped_all steps (stepped step w)).bytes Shared ≡ (stepped_all later u).bytes Shared)
        → (accepts : Bool) → stores_shared (call_of step) && not (refuses (answer_of step w).refusal) ≡ accepts
        → (stepped_all steps (stepped step w)).bytes Shared ≡ (stepped_all (cond accepts (step ∷ later) later) v).bytes Shared
    go stops rest true is =
        let both = (and-eq-true_iff (stores_shared (call_of step)) (not (refuses (answer_of step w).refusal))).0 is in
        let alike = step_alike step w v out lengths same both.0 (not-true _ both.1) in
        rest (stepped step v) alike.1 (λ memory. step_lengths step w memory ∙ lengths memory ∙ sym (step_lengths step v memory)) alike.0
    go stops rest false is =
        rest v out (λ memory. step_lengths step w memory ∙ lengths memory) (shared_stays step w stops is ∙ same)

pub held_touches_nothing : HeldTouchesNothing
held_touches_nothing steps w h =
    record {
      touches_nothing = stopped_touches_nothing TheZ80 steps w h;
      private = private_stays steps w h;
      shared = shared_by_stores steps w (out_of_reset w) h refl (λ memory. refl) refl;
    }

step_holds :
    (step : Step) (w : World) → z80_runs w.machine ≡ false → CodeHas false (call_of step) → z80_runs (stepped step w).machine ≡ false
step_holds (Made call) w h clear = keeps_the_bit call w false h clear
step_holds (Lending lent call) w h clear = keeps_the_bit call (lending lent w) false h clear

stays_held : (steps : List Step) (w : World) → z80_runs w.machine ≡ false → NoneLetsItRun steps → Held steps w
stays_held [] w h none = refl
stays_held (step ∷ steps) w h none =
    rw (h, stays_held steps (stepped step w) (step_holds step w h none.0) none.1) (go (is_z80 (call_of step)))
  where
    go : (z : Bool) → (not z || true) && true ≡ true
    go true = refl
    go false = refl

pub held_until_let_run : HeldUntilLetRun
held_until_let_run steps w h none = held_touches_nothing steps w (stays_held steps w h none)
