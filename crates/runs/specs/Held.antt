-- Document 02, ticket 2: "A Z80 held in reset must not touch memory." What is shown of whole runs, beside what
-- Stopped.antt has.
use Rattle.std.specs.Prelude.{◌≡◌, List, [], ◌∷◌, Bool, true, false, not, cond, ◌&&◌}
use Rattle.lent.specs.Refusals.{refuses}
use Rattle.machine.specs.Fields.{with_reset}
use Rattle.machine.specs.Settings.{z80_runs}
use Rattle.runs.specs.World.{Shared, Private, World, with_machine, Call}
use Rattle.runs.specs.Reach.{AllOf, may_change}
use Rattle.runs.specs.Z80.{CodeHas}
use Rattle.runs.specs.Kept.{Step, stepped}
use Rattle.runs.specs.Stopped.{TheZ80, is_8088, call_of, answer_of, stepped_all, stopped_at_its_calls, TouchesNothing}

-- the stores of the 8088 into shared memory that a run accepts, with a picture lent, an index too, or neither, and
-- nothing else
abbrev pub stores_shared : Call → Bool
stores_shared call = is_8088 call && may_change call (AllOf Shared)

abbrev pub accepted_stores : List Step → World → List Step
accepted_stores [] w = []
accepted_stores (step ∷ steps) w =
    let later = accepted_stores steps (stepped step w) in
    cond (stores_shared (call_of step) && not (refuses (answer_of step w).refusal)) (step ∷ later) later

-- a machine in which the 8088 is not in reset, so that each of them is accepted again
abbrev pub out_of_reset : World → World
out_of_reset w = with_machine (with_reset w.machine false) w

-- Beside that a held Z80 leaves all as if it had made no call: its own memory stays; and shared memory is what the
-- 8088's stores alone make of it
pub record HeldZ80 (steps : List Step) (w : World) : Type 0 where
  pub touches_nothing : TouchesNothing TheZ80 steps w
  pub private : (stepped_all steps w).bytes Private ≡ w.bytes Private
  pub shared : (stepped_all steps w).bytes Shared ≡ (stepped_all (accepted_stores steps w) (out_of_reset w)).bytes Shared

abbrev pub HeldTouchesNothing : Type 0
HeldTouchesNothing = (steps : List Step) (w : World) → stopped_at_its_calls TheZ80 steps w ≡ true → HeldZ80 steps w

-- each code that is written to port 0A in a run has bit 0 clear
abbrev pub NoneLetsItRun : List Step → Type 0
NoneLetsItRun [] = Unit {0}
NoneLetsItRun (step ∷ steps) = CodeHas false (call_of step) × NoneLetsItRun steps

-- So from power-up, or from any time at which the bit is 0, a Z80 touches nothing until a code with bit 0 set is
-- written to 0A
abbrev pub HeldUntilLetRun : Type 0
HeldUntilLetRun =
    (steps : List Step) (w : World) → z80_runs w.machine ≡ false → NoneLetsItRun steps → HeldZ80 steps w
