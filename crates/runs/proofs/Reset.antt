-- What holds of runs in reset: the statements of specs/Reset.antt.
use Prim.Native.Nat.{ℕ}
use mathlib.Core.Path.{◌≡◌, refl, subst, sym, ap, ◌∙◌}
use mathlib.Core.List.{List, [], ◌∷◌}
use mathlib.Core.Bool.{Bool, true, false, not, cond, true≢false, false≢true, and-eq-true_iff, or-true}
use lib.ListN.{length, drop}
use Rattle.machine.specs.Settings.{z80_runs}
use Rattle.memories.specs.ViewZ80.{shared_from}
use Rattle.runs.specs.World.{Memory, Shared, Private, World, with_machine, Call, Read8088, Store8088, ReadZ80, StoreZ80, ReadShadow, WriteShadow, WritePort, VerticalTick, WatchdogTick, Draw, StoreWithPicture, IndexReaders, StoreWithIndex, DrawForViewers, StoreForViewers, StoreWithIndexForViewers, Ask, GlyphPart, DrawLine, ListLines, Explain}
use Rattle.runs.specs.Reach.{Z80Bit, has, has_memory, Same}
use Rattle.runs.specs.Z80.{only_parts, only_memories, is_z80, Agree}
use Rattle.runs.specs.Kept.{Lent, Own, Another, lent_bytes, kept_bytes, lending, keeping, Step, Made, Lending, stepped}
use Rattle.runs.specs.Stopped.{The8088, TheZ80, is_8088, call_of, answer_of, stepped_all, stopped_at, stopped_at_its_calls, answers_of, without}
use Rattle.runs.specs.Reset.{all_accesses, NothingInReset, Z80GoesOn}
use Rattle.runs.proofs.Z80.{keeps_the_bit, agree_sym, agree_trans, z80}
use Rattle.runs.proofs.Stopped.{step_stays, first_and_later, stopped_touches_nothing}
use Rattle.runs.proofs.Held.{step_leaves, aside}

-- in reset each access leaves the world, and so the 8088 in reset
accesses_stopped : (steps : List Step) (w : World) → w.machine.reset ≡ true → all_accesses steps ≡ true → stopped_at_its_calls The8088 steps w ≡ true
accesses_stopped [] w reset all = refl
accesses_stopped (step ∷ steps) w reset all =
    let both = (and-eq-true_iff (is_8088 (call_of step)) (all_accesses steps)).0 all in
    let here : stopped_at The8088 step w ≡ true = rw reset (or-true (not (is_8088 (call_of step)))) in
    let later =
    subst (λ (u : World). stopped_at_its_calls The8088 steps u ≡ true) (sym (step_stays The8088 step w both.0 reset))
    (accesses_stopped steps w reset both.1) in
    (and-eq-true_iff _ _).1 (here, later)

all_without : (steps : List Step) → all_accesses steps ≡ true → without The8088 steps ≡ []
all_without [] all = refl
all_without (step ∷ steps) all =
    let both = (and-eq-true_iff (is_8088 (call_of step)) (all_accesses steps)).0 all in
    rw both.0 (all_without steps both.1)

pub nothing_in_reset : NothingInReset
nothing_in_reset steps w reset all =
    let nothing = stopped_touches_nothing The8088 steps w (accesses_stopped steps w reset all) in
    (nothing.as_without ∙ ap (λ (l : List Step). stepped_all l w) (all_without steps all), nothing.refused)

-- no call is of both processors
not_both : (call : Call) → is_8088 call ≡ true → is_z80 call ≡ false
unfolding only_parts only_memories has has_memory
not_both (Read8088 a) is = refl
not_both (Store8088 a b) is = refl
not_both (StoreWithPicture a b) is = refl
not_both (StoreForViewers a b) is = refl
not_both (StoreWithIndex a b) is = refl
not_both (StoreWithIndexForViewers a b) is = refl
not_both (ReadShadow p) is = refl
not_both (WriteShadow p b) is = refl
not_both (WritePort p k) is = refl
not_both (ReadZ80 a) is = absurd (false≢true is)
not_both (StoreZ80 a b) is = absurd (false≢true is)
not_both VerticalTick is = absurd (false≢true is)
not_both WatchdogTick is = absurd (false≢true is)
not_both Draw is = absurd (false≢true is)
not_both DrawForViewers is = absurd (false≢true is)
not_both IndexReaders is = absurd (false≢true is)
not_both (Ask n) is = absurd (false≢true is)
not_both (GlyphPart k) is = absurd (false≢true is)
not_both (DrawLine r s) is = absurd (false≢true is)
not_both ListLines is = absurd (false≢true is)
not_both (Explain r k) is = absurd (false≢true is)

-- a call that is no access of the 8088 leaves whether the Z80 runs
bit_stays : (step : Step) (w : World) → is_8088 (call_of step) ≡ false → Same Z80Bit (stepped step w) w
bit_stays (Made call) w other =
    keeps_the_bit call w (z80_runs w.machine) refl (λ code e. absurd (true≢false (sym (ap is_8088 e) ∙ other)))
bit_stays (Lending lent call) w other =
    keeps_the_bit call (lending lent w) (z80_runs w.machine) refl (λ code e. absurd (true≢false (sym (ap is_8088 e) ∙ other)))

-- one that is no call of the Z80 either leaves what the Z80 sees
quiet : (step : Step) (w : World) → is_8088 (call_of step) ≡ false → is_z80 (call_of step) ≡ false → Agree (stepped step w) w
quiet step w other not_its =
    let leaves = aside (call_of step) not_its in
    let shared = step_leaves step w Shared (leaves.1 (rw other)) in
    record {
      private = step_leaves step w Private leaves.0;
      shared_length = ap length shared;
      from0800 = ap (drop shared_from) shared;
    }

-- worlds that agree do so with other memories lent to both, and when these are taken back
module _ (lent : Memory → Lent) (w v : World) (same : Agree w v) where
  lent_agree : Agree (lending lent w) (lending lent v)
  lent_agree =
      record {
        private = ap (lent_bytes (lent Private)) same.private;
        shared_length = either_way length (lent Shared) same.shared_length;
        from0800 = either_way (drop shared_from) (lent Shared) same.from0800;
      }
    where
      either_way :
          {A : Type 0} (f : List ℕ → A) (one : Lent) {own other : List ℕ} → f own ≡ f other
          → f (lent_bytes one own) ≡ f (lent_bytes one other)
      either_way f Own e = e
      either_way f (Another bytes) e = refl

  kept_agree : (new new' : World) → Agree new new' → Agree (keeping lent w new) (keeping lent v new')
  kept_agree new new' after_it =
      record {
        private = either_way (λ (l : List ℕ). l) (lent Private) same.private after_it.private;
        shared_length = either_way length (lent Shared) same.shared_length after_it.shared_length;
        from0800 = either_way (drop shared_from) (lent Shared) same.from0800 after_it.from0800;
      }
    where
      either_way :
          {A : Type 0} (f : List ℕ → A) (one : Lent) {own other l k : List ℕ} → f own ≡ f other → f l ≡ f k
          → f (kept_bytes one own l) ≡ f (kept_bytes one other k)
      either_way f Own e g = g
      either_way f (Another bytes) e g = e

z80_step :
    (step : Step) (w v : World) → Agree w v → Same Z80Bit w v → is_z80 (call_of step) ≡ true
    → (answer_of step w ≡ answer_of step v) × Agree (stepped step w) (stepped step v)
z80_step (Made call) w v same bit is = z80 w v same call bit is
z80_step (Lending lent call) w v same bit is =
    let both = z80 (lending lent w) (lending lent v) (lent_agree lent w v same) call bit is in
    (both.0, kept_agree lent w v same _ _ both.1)

goes_on :
    (steps : List Step) (w v : World) → stopped_at_its_calls The8088 steps w ≡ true → Agree w v → Same Z80Bit w v
    → answers_of TheZ80 steps w ≡ answers_of TheZ80 (without The8088 steps) v
goes_on [] w v h same bit = refl
goes_on (step ∷ steps) w v h same bit =
    let asked = first_and_later The8088 step steps w h in
    go asked.0 (λ u. goes_on steps (stepped step w) u asked.1) (is_8088 (call_of step)) (is_z80 (call_of step)) refl refl
  where
    rest : List Step
    rest = without The8088 steps

    go :
        (is_8088 (call_of step) ≡ true → w.machine.reset ≡ true)
        → ((u : World) → Agree (stepped step w) u → Same Z80Bit (stepped step w) u
        → answers_of TheZ80 steps (stepped step w) ≡ answers_of TheZ80 rest u)
        → (a z : Bool) → is_8088 (call_of step) ≡ a → is_z80 (call_of step) ≡ z
        → cond z (answer_of step w ∷ answers_of TheZ80 steps (stepped step w)) (answers_of TheZ80 steps (stepped step w))
        ≡ answers_of TheZ80 (cond a rest (step ∷ rest)) v
    go stops later true true e f = absurd (false≢true (sym (not_both (call_of step) e) ∙ f))
    go stops later true false e f =
        let stays = step_stays The8088 step w e (stops e) in
        later v (subst (λ (u : World). Agree u v) (sym stays) same) (subst (λ (u : World). Same Z80Bit u v) (sym stays) bit)
    go stops later false true e f =
        let both = z80_step step w v same bit f in
        rw (f, both.0, later (stepped step v) both.1 (bit_stays step w e ∙ bit ∙ sym (bit_stays step v e)))
    go stops later false false e f =
        rw f
        (later (stepped step v) (agree_trans (quiet step w e f) (agree_trans same (agree_sym (quiet step v e f))))
        (bit_stays step w e ∙ bit ∙ sym (bit_stays step v e)))

pub z80_goes_on : Z80GoesOn
z80_goes_on steps w m h bit =
    goes_on steps w (with_machine m w) h (record { private = refl; shared_length = refl; from0800 = refl }) (sym bit)
