-- Document 02, tickets 2 and 3: a processor that is stopped, the Z80 that is held or the 8088 in reset, touches
-- nothing. What is shown of whole runs, once for both.
use Rattle.std.specs.Prelude.{ℕ, ◌≡◌, List, [], ◌∷◌, Bool, true, false, not, cond, ◌&&◌, ◌||◌, eqb}
use Rattle.lent.specs.Refusals.{length_refused, z80_held_refused, in_reset_refused}
use Rattle.machine.specs.Settings.{z80_runs}
use Rattle.machine.specs.declared.Machine.{Machine}
use Rattle.runs.specs.World.{World, Call, Read8088, Store8088, ReadZ80, StoreZ80, ReadShadow, WriteShadow, WritePort, VerticalTick, WatchdogTick, Draw, StoreWithPicture, IndexReaders, StoreWithIndex, DrawForViewers, StoreForViewers, StoreWithIndexForViewers, Ask, GlyphPart, DrawLine, ListLines, Explain, Answer, answer}
use Rattle.runs.specs.Z80.{is_z80}
use Rattle.runs.specs.Kept.{Step, Made, Lending, lending, stepped}

pub data Processor : Type 0 where
  The8088 : Processor
  TheZ80 : Processor

-- 02, ticket 3: "8088 accesses, those to the shadow too, and port writes"
abbrev pub is_8088 : Call → Bool
is_8088 (Read8088 address) = true
is_8088 (Store8088 address byte) = true
is_8088 (StoreWithPicture address byte) = true
is_8088 (StoreForViewers address byte) = true
is_8088 (StoreWithIndex address byte) = true
is_8088 (StoreWithIndexForViewers address byte) = true
is_8088 (ReadShadow place) = true
is_8088 (WriteShadow place value) = true
is_8088 (WritePort port code) = true
is_8088 (ReadZ80 address) = false
is_8088 (StoreZ80 address byte) = false
is_8088 VerticalTick = false
is_8088 WatchdogTick = false
is_8088 Draw = false
is_8088 DrawForViewers = false
is_8088 IndexReaders = false
is_8088 (Ask viewer) = false
is_8088 (GlyphPart code) = false
is_8088 (DrawLine row scan) = false
is_8088 ListLines = false
is_8088 (Explain row column) = false

-- whether a call is made by a processor
abbrev pub is_of : Processor → Call → Bool
is_of The8088 call = is_8088 call
is_of TheZ80 call = is_z80 call

-- 02, ticket 3: "During reset", and ticket 2: "the Z80 runs only while the bit is 1"
abbrev pub is_stopped : Processor → Machine → Bool
is_stopped The8088 m = m.reset
is_stopped TheZ80 m = not (z80_runs m)

-- "8, the 8088 is in reset" and "7, the Z80 is held"
abbrev pub stop_number : Processor → ℕ
stop_number The8088 = in_reset_refused
stop_number TheZ80 = z80_held_refused

-- a run is any list of steps: calls with the memories that are kept, or with others in place of some
abbrev pub call_of : Step → Call
call_of (Made call) = call
call_of (Lending lent call) = call

abbrev pub answer_of : Step → World → Answer
answer_of (Made call) w = answer call w
answer_of (Lending lent call) w = answer call (lending lent w)

abbrev pub stepped_all : List Step → World → World
stepped_all [] w = w
stepped_all (step ∷ steps) w = stepped_all steps (stepped step w)

-- whether a processor is stopped at each call that it makes in a run. What is left out are runs in which it makes a
-- call while it is not
abbrev pub stopped_at : Processor → Step → World → Bool
stopped_at p step w = not (is_of p (call_of step)) || is_stopped p w.machine

abbrev pub stopped_at_its_calls : Processor → List Step → World → Bool
stopped_at_its_calls p [] w = true
stopped_at_its_calls p (step ∷ steps) w = stopped_at p step w && stopped_at_its_calls p steps (stepped step w)

-- the answers of a processor in a run
abbrev pub answers_of : Processor → List Step → World → List Answer
answers_of p [] w = []
answers_of p (step ∷ steps) w =
    let later = answers_of p steps (stepped step w) in
    cond (is_of p (call_of step)) (answer_of step w ∷ later) later

-- each is refused: by the number of the stop, or by 1
abbrev pub all_stopped : Processor → List Answer → Bool
all_stopped p [] = true
all_stopped p (answer ∷ answers) =
    (eqb answer.refusal (stop_number p) || eqb answer.refusal length_refused) && all_stopped p answers

-- the run without a processor's calls
abbrev pub without : Processor → List Step → List Step
without p [] = []
without p (step ∷ steps) = cond (is_of p (call_of step)) (without p steps) (step ∷ without p steps)

-- Machine and memories end as if the processor had made no call, and each of its answers is a refusal
pub record TouchesNothing (p : Processor) (steps : List Step) (w : World) : Type 0 where
  pub as_without : stepped_all steps w ≡ stepped_all (without p steps) w
  pub refused : all_stopped p (answers_of p steps w) ≡ true

abbrev pub StoppedTouchesNothing : Type 0
StoppedTouchesNothing =
    (p : Processor) (steps : List Step) (w : World) → stopped_at_its_calls p steps w ≡ true → TouchesNothing p steps w
