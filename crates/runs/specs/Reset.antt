-- Document 02, ticket 3: "During reset, 8088 accesses, those to the shadow too, and port writes are refused." What is
-- shown of whole runs, beside what Stopped.antt has.
use Rattle.std.specs.Prelude.{◌≡◌, List, [], ◌∷◌, Bool, true, ◌&&◌}
use Rattle.machine.specs.Settings.{z80_runs}
use Rattle.machine.specs.declared.Machine.{Machine}
use Rattle.runs.specs.World.{World, with_machine}
use Rattle.runs.specs.Kept.{Step}
use Rattle.runs.specs.Stopped.{The8088, TheZ80, is_8088, call_of, stepped_all, stopped_at_its_calls, answers_of, all_stopped, without}

-- a run of accesses of the 8088 alone
abbrev pub all_accesses : List Step → Bool
all_accesses [] = true
all_accesses (step ∷ steps) = is_8088 (call_of step) && all_accesses steps

-- in reset such a run changes no byte of a memory and no field of the machine, and each access is refused, by 8 or 1
abbrev pub NothingInReset : Type 0
NothingInReset =
    (steps : List Step) (w : World) → w.machine.reset ≡ true → all_accesses steps ≡ true
    → (stepped_all steps w ≡ w) × (all_stopped The8088 (answers_of The8088 steps w) ≡ true)

-- only the 8088 is reset (003, line 597): where it is in reset at each of its accesses, the Z80 is answered as in a run
-- without these accesses and with any other machine, such as one out of reset, in which the Z80 runs or is held as here
abbrev pub Z80GoesOn : Type 0
Z80GoesOn =
    (steps : List Step) (w : World) (m : Machine) → stopped_at_its_calls The8088 steps w ≡ true
    → z80_runs m ≡ z80_runs w.machine
    → answers_of TheZ80 steps w ≡ answers_of TheZ80 (without The8088 steps) (with_machine m w)
