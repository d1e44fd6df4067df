-- When the 8088 is in reset, told from the past: the statements of specs/Watchdog.antt.
use Prim.Native.Nat.{ℕ, ◌+◌, ◌*◌, ◌<◌}
use mathlib.Core.Path.{◌≡◌, refl, sym, ap, ◌∙◌}
use mathlib.Core.List.{List, [], ◌∷◌}
use mathlib.Core.Bool.{Bool, true, false, not, cond, ◌&&◌, ◌||◌, false≢true}
use native.Mathlib.Omega.{arith}
use lib.Dec.{eqb, ltb}
use borrow.Author.Tests.{eq-eqb, ne_eqb, eqb-true, not-false, ltb-true, ltb-false}
use Rattle.lent.specs.Refusals.{refuses}
use Rattle.machine.specs.Power.{power_up}
use Rattle.machine.specs.Settings.{bit}
use Rattle.machine.specs.Watchdog.{watch_ticks, watchdog_tick}
use Rattle.machine.specs.declared.Machine.{Machine}
use Rattle.chain.proofs.Searching.{neither}
use Rattle.runs.specs.World.{Nvm, Shadow, World, Call, Read8088, Store8088, ReadZ80, StoreZ80, ReadShadow, WriteShadow, WritePort, VerticalTick, WatchdogTick, Draw, StoreWithPicture, IndexReaders, StoreWithIndex, DrawForViewers, StoreForViewers, StoreWithIndexForViewers, Ask, GlyphPart, DrawLine, ListLines, Explain, after, answer}
use Rattle.runs.specs.Kept.{lending, Step, Made, Lending, stepped}
use Rattle.runs.specs.Stopped.{call_of, answer_of, stepped_all}
use Rattle.runs.specs.Watchdog.{Event, Tick, Wrote, Nothing, happened, enabled, ticks, is128th, in_reset, since_reset, since_start, past_of, CountMeansTicks, since_write, TopBitOfTheTimer}
use Rattle.runs.proofs.Refused.{changes_nothing}
use Rattle.runs.proofs.Ports.{Sets, port_reset, port_sets}

-- what an event makes of a machine
abbrev Follows : Event → (m n : Machine) → Type 0
Follows Tick m n = n ≡ watchdog_tick m
Follows (Wrote port code) m n = Sets m port code n × (n.reset ≡ m.reset)
Follows Nothing m n = (n.watchdog ≡ m.watchdog) × ((n.count ≡ m.count) × (n.reset ≡ m.reset))

nothing_follows : (m : Machine) → Follows Nothing m m
nothing_follows m = (refl, (refl, refl))

-- refused or not, a call that is nothing to the watchdog is that
either_way : (refused : Bool) (m : Machine) → Follows (cond refused Nothing Nothing) m m
either_way true m = nothing_follows m
either_way false m = nothing_follows m

follows : (call : Call) (w : World) → Follows (happened call (answer call w).refusal) w.machine (after call w).machine
follows WatchdogTick w = refl
follows (WritePort p k) w = go (refuses (answer (WritePort p k) w).refusal) refl
  where
    go : (r : Bool) → refuses (answer (WritePort p k) w).refusal ≡ r → Follows (cond r Nothing (Wrote p k)) w.machine (after (WritePort p k) w).machine
    go true e =
        let stays = (changes_nothing (WritePort p k) w (λ f. false≢true (sym (ap refuses f) ∙ e))).0 in
        let same = ap (λ (u : World). u.machine) stays in
        (ap (λ (m : Machine). m.watchdog) same, (ap (λ (m : Machine). m.count) same, ap (λ (m : Machine). m.reset) same))
    go false e =
        (port_sets w.machine (w.bytes Shadow) (w.bytes Nvm) p k e, port_reset w.machine (w.bytes Shadow) (w.bytes Nvm) p k)
follows VerticalTick w = (refl, (refl, refl))
follows (Read8088 a) w = either_way (refuses (answer (Read8088 a) w).refusal) w.machine
follows (Store8088 a b) w = either_way (refuses (answer (Store8088 a b) w).refusal) w.machine
follows (StoreWithPicture a b) w = either_way (refuses (answer (StoreWithPicture a b) w).refusal) w.machine
follows (ReadZ80 a) w = either_way (refuses (answer (ReadZ80 a) w).refusal) w.machine
follows (StoreZ80 a b) w = either_way (refuses (answer (StoreZ80 a b) w).refusal) w.machine
follows (ReadShadow p) w = either_way (refuses (answer (ReadShadow p) w).refusal) w.machine
follows (WriteShadow p b) w = either_way (refuses (answer (WriteShadow p b) w).refusal) w.machine
follows Draw w = either_way (refuses (answer Draw w).refusal) w.machine
follows DrawForViewers w = either_way (refuses (answer DrawForViewers w).refusal) w.machine
follows (StoreForViewers a b) w = either_way (refuses (answer (StoreForViewers a b) w).refusal) w.machine
follows IndexReaders w = either_way (refuses (answer IndexReaders w).refusal) w.machine
follows (StoreWithIndex a b) w = either_way (refuses (answer (StoreWithIndex a b) w).refusal) w.machine
follows (StoreWithIndexForViewers a b) w = either_way (refuses (answer (StoreWithIndexForViewers a b) w).refusal) w.machine
follows (Ask n) w = either_way (refuses (answer (Ask n) w).refusal) w.machine
follows (GlyphPart k) w = either_way (refuses (answer (GlyphPart k) w).refusal) w.machine
follows (DrawLine r s) w = either_way (refuses (answer (DrawLine r s) w).refusal) w.machine
follows ListLines w = either_way (refuses (answer ListLines w).refusal) w.machine
follows (Explain r k) w = either_way (refuses (answer (Explain r k) w).refusal) w.machine

-- what a past says of a machine; and how many times the timer of 8 bits has gone round since the last code 09 or
-- enabling
pub record Says (past : List Event) (m : Machine) : Type 0 where
  pub reset : m.reset ≡ in_reset past
  pub watchdog : m.watchdog ≡ enabled past
  pub count : m.count ≡ cond (in_reset past) (ticks (since_reset past)) (cond (enabled past) (ticks (since_start past)) 0)
  pub under : m.count < watch_ticks
  pub only_enabled : in_reset past ≡ true → enabled past ≡ true
  pub rounds : ℕ
  pub timer : enabled past ≡ true → ticks (since_write past) ≡ 256 * rounds + (cond (in_reset past) 128 0 + m.count)

-- the fields after a tick
tick_fields :
    (m : Machine) (r e more : Bool) → m.reset ≡ r → m.watchdog ≡ e → ltb (m.count + 1) watch_ticks ≡ more
    → let n = watchdog_tick m in
    (n.reset ≡ cond (r || e) (cond more r (not r)) r)
    × ((n.watchdog ≡ e) × (n.count ≡ cond (r || e) (cond more (m.count + 1) 0) 0))
tick_fields m true e true f g h = (rw (f, h), (rw (f, h) g, rw (f, h)))
tick_fields m true e false f g h = (rw (f, h), (rw (f, h) g, rw (f, h)))
tick_fields m false true true f g h = (rw (f, g, h), (rw (f, g, h), rw (f, g, h)))
tick_fields m false true false f g h = (rw (f, g, h), (rw (f, g, h), rw (f, g, h)))
tick_fields m false false more f g h = (rw (f, g), (rw (f, g), rw (f, g)))

-- a tick
module _ (past : List Event) (m : Machine) (says : Says past m) where
  ticked : Says (Tick ∷ past) (watchdog_tick m)
  ticked = go (in_reset past) (enabled past) (ltb (m.count + 1) watch_ticks) refl refl refl
    where
      go :
          (r e more : Bool) → in_reset past ≡ r → enabled past ≡ e → ltb (m.count + 1) watch_ticks ≡ more
          → Says (Tick ∷ past) (watchdog_tick m)
      go true e true f g h =
          let n = tick_fields m true e true (says.reset ∙ f) (says.watchdog ∙ g) h in
          let c : m.count ≡ ticks (since_reset past) = says.count ∙ rw f in
          let more = ltb-true (m.count + 1) watch_ticks h in
          let not_yet : is128th (since_reset past) ≡ false = ne_eqb (ticks (since_reset past) + 1) watch_ticks (λ k. omega arith) in
          record {
            reset = n.0 ∙ rw (f, not_yet);
            watchdog = n.1.0 ∙ sym g;
            count = n.1.1 ∙ rw (f, not_yet, c);
            under = rw n.1.1 (omega arith);
            only_enabled = λ _. says.only_enabled f;
            rounds = says.rounds;
            timer = λ k.
                let t : ticks (since_write past) ≡ 256 * says.rounds + (128 + m.count) = says.timer k ∙ rw f in
                rw (f, not_yet, n.1.1) (omega arith);
          }
      go true e false f g h =
          let n = tick_fields m true e false (says.reset ∙ f) (says.watchdog ∙ g) h in
          let c : m.count ≡ ticks (since_reset past) = says.count ∙ rw f in
          let last = ltb-false (m.count + 1) watch_ticks h in
          let under = says.under in
          let now : is128th (since_reset past) ≡ true = eq-eqb (ticks (since_reset past) + 1) watch_ticks (omega arith) in
          let on = says.only_enabled f in
          record {
            reset = n.0 ∙ rw (f, now);
            watchdog = n.1.0 ∙ sym g;
            count = n.1.1 ∙ rw (f, now, on);
            under = rw n.1.1 (omega arith);
            only_enabled = λ _. on;
            rounds = says.rounds + 1;
            timer = λ k.
                let t : ticks (since_write past) ≡ 256 * says.rounds + (128 + m.count) = says.timer k ∙ rw f in
                rw (f, now, n.1.1) (omega arith);
          }
      go false true true f g h =
          let n = tick_fields m false true true (says.reset ∙ f) (says.watchdog ∙ g) h in
          let c : m.count ≡ ticks (since_start past) = says.count ∙ rw (f, g) in
          let more = ltb-true (m.count + 1) watch_ticks h in
          let not_yet : is128th (since_start past) ≡ false = ne_eqb (ticks (since_start past) + 1) watch_ticks (λ k. omega arith) in
          record {
            reset = n.0 ∙ rw (f, g, not_yet);
            watchdog = n.1.0 ∙ sym g;
            count = n.1.1 ∙ rw (f, g, not_yet, c);
            under = rw n.1.1 (omega arith);
            only_enabled = λ _. g;
            rounds = says.rounds;
            timer = λ k.
                let t : ticks (since_write past) ≡ 256 * says.rounds + (0 + m.count) = says.timer k ∙ rw f in
                rw (f, g, not_yet, n.1.1) (omega arith);
          }
      go false true false f g h =
          let n = tick_fields m false true false (says.reset ∙ f) (says.watchdog ∙ g) h in
          let c : m.count ≡ ticks (since_start past) = says.count ∙ rw (f, g) in
          let last = ltb-false (m.count + 1) watch_ticks h in
          let under = says.under in
          let now : is128th (since_start past) ≡ true = eq-eqb (ticks (since_start past) + 1) watch_ticks (omega arith) in
          record {
            reset = n.0 ∙ rw (f, g, now);
            watchdog = n.1.0 ∙ sym g;
            count = n.1.1 ∙ rw (f, g, now);
            under = rw n.1.1 (omega arith);
            only_enabled = λ _. g;
            rounds = says.rounds;
            timer = λ k.
                let t : ticks (since_write past) ≡ 256 * says.rounds + (0 + m.count) = says.timer k ∙ rw f in
                rw (f, g, now, n.1.1) (omega arith);
          }
      go false false more f g h =
          let n = tick_fields m false false more (says.reset ∙ f) (says.watchdog ∙ g) h in
          record {
            reset = n.0 ∙ rw (f, g);
            watchdog = n.1.0 ∙ sym g;
            count = n.1.1 ∙ rw (f, g);
            under = rw n.1.1 (omega arith);
            only_enabled = λ k. absurd (false≢true (rw (f, g) at k));
            rounds = 0;
            timer = λ k. absurd (false≢true (sym g ∙ k));
          }

  -- what is nothing to the watchdog
  passed : (n : Machine) → Follows Nothing m n → Says (Nothing ∷ past) n
  passed n same =
      record {
        reset = same.1.1 ∙ says.reset;
        watchdog = same.0 ∙ says.watchdog;
        count = same.1.0 ∙ says.count;
        under = rw same.1.0 says.under;
        only_enabled = says.only_enabled;
        rounds = says.rounds;
        timer = λ k. rw same.1.0 (says.timer k);
      }

  -- an accepted write, which is made out of reset
  module _ (port code : ℕ) (n : Machine) (sets : Sets m port code n) (stays : n.reset ≡ m.reset) where
    out : in_reset past ≡ false
    out = sym says.reset ∙ sets.out

    -- to 0C: a code 09 or an enabling starts anew, and another code leaves what was
    enabling : eqb port 0x0C ≡ true → eqb port 0x10C ≡ false → Says (Wrote port code ∷ past) n
    enabling e f = go (eqb code 0x09 || not (enabled past)) refl
      where
        starts : (b : Bool) → eqb code 0x09 || not (enabled past) ≡ b → n.count ≡ cond b 0 m.count
        starts b k = sets.count ∙ rw (e, f, says.watchdog, k)

        go : (b : Bool) → eqb code 0x09 || not (enabled past) ≡ b → Says (Wrote port code ∷ past) n
        go true k =
            record {
              reset = stays ∙ says.reset;
              watchdog = sets.watchdog ∙ rw e;
              count = starts true k ∙ rw (out, e, k);
              under = rw (starts true k) (omega arith);
              only_enabled = λ _. rw e;
              rounds = 0;
              timer = λ _. rw (starts true k, out, e, k);
            }
        go false k =
            let on = not-false (enabled past) (neither (eqb code 0x09) (not (enabled past)) k).1 in
            record {
              reset = stays ∙ says.reset;
              watchdog = sets.watchdog ∙ rw e;
              count = starts false k ∙ says.count ∙ rw (out, e, k, on);
              under = rw (starts false k) says.under;
              only_enabled = λ _. rw e;
              rounds = says.rounds;
              timer = λ _. rw (starts false k, e, k) (says.timer on);
            }

    wrote_by : (c d : Bool) → eqb port 0x0C ≡ c → eqb port 0x10C ≡ d → Says (Wrote port code ∷ past) n
    wrote_by true true e f = absurd (omega (arith, eqb-true port 0x0C e, eqb-true port 0x10C f))
    wrote_by true false e f = enabling e f
    -- to 10C
    wrote_by false true e f =
        let none : n.count ≡ 0 = sets.count ∙ rw f in
        record {
          reset = stays ∙ says.reset;
          watchdog = sets.watchdog ∙ rw (e, f);
          count = none ∙ rw (out, e, f);
          under = rw none (omega arith);
          only_enabled = λ k. absurd (false≢true (sym out ∙ k));
          rounds = 0;
          timer = λ k. absurd (false≢true (rw (e, f) at k));
        }
    -- to another port
    wrote_by false false e f =
        let same : n.count ≡ m.count = sets.count ∙ rw (e, f) in
        record {
          reset = stays ∙ says.reset;
          watchdog = sets.watchdog ∙ rw (e, f) says.watchdog;
          count = same ∙ says.count ∙ rw (out, e, f);
          under = rw same says.under;
          only_enabled = λ k. absurd (false≢true (sym out ∙ k));
          rounds = says.rounds;
          timer = λ k. rw (same, e, f) (says.timer (rw (e, f) at k));
        }

  said : (event : Event) (n : Machine) → Follows event m n → Says (event ∷ past) n
  said Tick n follows_it = rw follows_it ticked
  said (Wrote port code) n (sets, stays) = wrote_by port code n sets stays (eqb port 0x0C) (eqb port 0x10C) refl refl
  said Nothing n same = passed n same

step_follows :
    (step : Step) (w : World) → Follows (happened (call_of step) (answer_of step w).refusal) w.machine (stepped step w).machine
step_follows (Made call) w = follows call w
step_follows (Lending lent call) w = follows call (lending lent w)

run_says :
    (steps : List Step) (w : World) (past : List Event) → Says past w.machine
    → Says (past_of steps w past) (stepped_all steps w).machine
run_says [] w past says = says
run_says (step ∷ steps) w past says =
    run_says steps (stepped step w) (happened (call_of step) (answer_of step w).refusal ∷ past)
    (said past w.machine says (happened (call_of step) (answer_of step w).refusal) (stepped step w).machine (step_follows step w))

from_power_up : (steps : List Step) (w : World) → w.machine ≡ power_up → Says (past_of steps w []) (stepped_all steps w).machine
from_power_up steps w e =
    run_says steps w []
    (rw e
    (record {
      reset = refl;
      watchdog = refl;
      count = refl;
      under = omega arith;
      only_enabled = λ k. absurd (false≢true k);
      rounds = 0;
      timer = λ _. refl;
    }))

pub count_means_ticks : CountMeansTicks
count_means_ticks steps w e =
    let says = from_power_up steps w e in
    record {
      reset = says.reset;
      watchdog = says.watchdog;
      count = says.count;
      under_128 = says.under;
      only_enabled = λ on. says.watchdog ∙ says.only_enabled (sym says.reset ∙ on);
    }

-- the top bit of a timer that has gone round so many times
top_bit : (rounds count : ℕ) (reset : Bool) → count < watch_ticks → eqb (bit 7 (256 * rounds + (cond reset 128 0 + count))) 1 ≡ reset
top_bit rounds count true h = eq-eqb (bit 7 (256 * rounds + (128 + count))) 1 (omega arith)
top_bit rounds count false h = ne_eqb (bit 7 (256 * rounds + (0 + count))) 1 (λ e. omega (arith, e))

by_timer : (past : List Event) (m : Machine) → Says past m → m.reset ≡ (enabled past && eqb (bit 7 (ticks (since_write past))) 1)
by_timer past m says = says.reset ∙ go (enabled past) (in_reset past) refl refl
  where
    go : (e r : Bool) → enabled past ≡ e → in_reset past ≡ r → in_reset past ≡ (e && eqb (bit 7 (ticks (since_write past))) 1)
    go true r f g = rw (says.timer f) (sym (top_bit says.rounds m.count (in_reset past) says.under))
    go false true f g = absurd (false≢true (sym f ∙ says.only_enabled g))
    go false false f g = g

pub top_bit_of_the_timer : TopBitOfTheTimer
top_bit_of_the_timer steps w e = by_timer (past_of steps w []) (stepped_all steps w).machine (from_power_up steps w e)
