-- Document 02, ticket 3: when the 8088 is in reset, told from the calls that were made and their answers alone.
use Rattle.std.specs.Prelude.{ℕ, ◌+◌, ◌<◌, ◌≡◌, List, [], ◌∷◌, Bool, true, false, not, cond, ◌&&◌, ◌||◌, eqb}
use Rattle.lent.specs.Refusals.{refuses}
use Rattle.machine.specs.Power.{power_up}
use Rattle.machine.specs.Settings.{bit}
use Rattle.machine.specs.Watchdog.{watch_ticks}
use Rattle.runs.specs.World.{World, Call, Read8088, Store8088, ReadZ80, StoreZ80, ReadShadow, WriteShadow, WritePort, VerticalTick, WatchdogTick, Draw, StoreWithPicture, IndexReaders, StoreWithIndex, DrawForViewers, StoreForViewers, StoreWithIndexForViewers, Ask, GlyphPart, DrawLine, ListLines, Explain}
use Rattle.runs.specs.Kept.{Step, stepped}
use Rattle.runs.specs.Stopped.{call_of, answer_of, stepped_all}

-- what a call is to the watchdog: a tick of its clock, an accepted write of a code to a port, or nothing
pub data Event : Type 0 where
  Tick : Event
  Wrote : (port code : ℕ) → Event
  Nothing : Event

-- a call that is not refused
abbrev pub event_of : Call → Event
event_of WatchdogTick = Tick
event_of (WritePort port code) = Wrote port code
event_of (Read8088 address) = Nothing
event_of (Store8088 address byte) = Nothing
event_of (StoreWithPicture address byte) = Nothing
event_of (StoreForViewers address byte) = Nothing
event_of (StoreWithIndex address byte) = Nothing
event_of (StoreWithIndexForViewers address byte) = Nothing
event_of (ReadZ80 address) = Nothing
event_of (StoreZ80 address byte) = Nothing
event_of (ReadShadow place) = Nothing
event_of (WriteShadow place value) = Nothing
event_of VerticalTick = Nothing
event_of Draw = Nothing
event_of DrawForViewers = Nothing
event_of IndexReaders = Nothing
event_of (Ask viewer) = Nothing
event_of (GlyphPart code) = Nothing
event_of (DrawLine row scan) = Nothing
event_of ListLines = Nothing
event_of (Explain row column) = Nothing

-- a call with its answer: one that was refused is nothing
abbrev pub happened : Call → (refusal : ℕ) → Event
happened call refusal = cond (refuses refusal) Nothing (event_of call)

-- Here a past is what happened until now, the latest first.

-- 01: "An accepted write to port 0C also enables the watchdog, one to port 10C disables it"
abbrev pub enabled : List Event → Bool
enabled [] = false
enabled (Tick ∷ past) = enabled past
enabled (Wrote port code ∷ past) = cond (eqb port 0x0C) true (cond (eqb port 0x10C) false (enabled past))
enabled (Nothing ∷ past) = enabled past

-- "code 09", to either port of the DC012
abbrev pub is09 : (port code : ℕ) → Bool
is09 port code = (eqb port 0x0C || eqb port 0x10C) && eqb code 0x09

-- "enabling": a write to port 0C while the watchdog is disabled
abbrev pub enables : (port : ℕ) → (past : List Event) → Bool
enables port past = eqb port 0x0C && not (enabled past)

-- how many ticks there are in a list
abbrev pub ticks : List Event → ℕ
ticks [] = 0
ticks (Tick ∷ events) = ticks events + 1
ticks (Wrote port code ∷ events) = ticks events
ticks (Nothing ∷ events) = ticks events

-- whether a tick that is made now is the 128th after these
abbrev pub is128th : List Event → Bool
is128th events = eqb (ticks events + 1) watch_ticks

abbrev mutual
  -- "While enabled, reset begins at the 128th tick after the last code 09, enabling or end of reset. .. Reset ends at
  -- the 128th tick after it began"
  pub in_reset : (past : List Event) → Bool
  in_reset [] = false
  in_reset (Tick ∷ past) =
      cond (in_reset past)
      (not (is128th (since_reset past)))
      (enabled past && is128th (since_start past))
  in_reset (Wrote port code ∷ past) = in_reset past
  in_reset (Nothing ∷ past) = in_reset past

  -- what happened since reset began: it begins at a tick, and lasts as long as it is on
  pub since_reset : (past : List Event) → List Event
  since_reset [] = []
  since_reset (Tick ∷ past) = cond (in_reset past) (Tick ∷ since_reset past) []
  since_reset (Wrote port code ∷ past) = Wrote port code ∷ since_reset past
  since_reset (Nothing ∷ past) = Nothing ∷ since_reset past

  -- what happened since "the last code 09, enabling or end of reset", which is at the last tick in reset
  pub since_start : (past : List Event) → List Event
  since_start [] = []
  since_start (Tick ∷ past) = cond (in_reset past) [] (Tick ∷ since_start past)
  since_start (Wrote port code ∷ past) =
      cond (is09 port code || enables port past) [] (Wrote port code ∷ since_start past)
  since_start (Nothing ∷ past) = Nothing ∷ since_start past

-- the past of a run
abbrev pub past_of : List Step → World → (before : List Event) → List Event
past_of [] w before = before
past_of (step ∷ steps) w before =
    past_of steps (stepped step w) (happened (call_of step) (answer_of step w).refusal ∷ before)

-- From power-up, after any list of calls, with other memories lent or not: the 8088 is in reset exactly when the past
-- says so; the watchdog is enabled exactly when it says so; and the count is the number of ticks since reset began, or
-- else since the start, "and stays 0 while disabled". So no run makes one of the odd machines of which
-- crates/machine/specs/Watchdog.antt speaks: the count is under 128, and in reset the watchdog is enabled
pub record MeansTicks (past : List Event) (w : World) : Type 0 where
  pub reset : w.machine.reset ≡ in_reset past
  pub watchdog : w.machine.watchdog ≡ enabled past
  pub count :
      w.machine.count
      ≡ cond (in_reset past) (ticks (since_reset past)) (cond (enabled past) (ticks (since_start past)) 0)
  pub under_128 : w.machine.count < watch_ticks
  pub only_enabled : w.machine.reset ≡ true → w.machine.watchdog ≡ true

abbrev pub CountMeansTicks : Type 0
CountMeansTicks =
    (steps : List Step) (w : World) → w.machine ≡ power_up → MeansTicks (past_of steps w []) (stepped_all steps w)

-- 004, line 4298: "The MHFU timer is an 8-bit binary counter". Its top bit is set from the 128th count to the 255th. So
-- the same is told by that bit of the number of ticks since the last code 09 or enabling, with no word of the end of
-- reset
abbrev pub since_write : (past : List Event) → List Event
since_write [] = []
since_write (Tick ∷ past) = Tick ∷ since_write past
since_write (Wrote port code ∷ past) =
    cond (is09 port code || enables port past) [] (Wrote port code ∷ since_write past)
since_write (Nothing ∷ past) = Nothing ∷ since_write past

abbrev pub TopBitOfTheTimer : Type 0
TopBitOfTheTimer =
    (steps : List Step) (w : World) → w.machine ≡ power_up
    → let past = past_of steps w [] in
    (stepped_all steps w).machine.reset ≡ (enabled past && eqb (bit 7 (ticks (since_write past))) 1)
