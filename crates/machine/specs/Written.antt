-- What a write to a port answers: "A refusal returns its number", and "the machine stay[s]".
use Rattle.std.specs.Prelude.{ℕ, Result, Ok, Err}
use Rattle.lent.specs.Refusals.{accepted, number_of}
use Rattle.lent.specs.declared.refusals.Refusal.{Refusal}
use Rattle.machine.specs.declared.Machine.{Machine}
use Rattle.machine.specs.declared.Written.{Written}

abbrev pub done : Machine → Written
done m = record { refusal = accepted; machine = m }

abbrev pub refused : ℕ → Machine → Written
refused n m = record { refusal = n; machine = m }

-- the machine after a write, or the refusal beside the machine before it
abbrev pub written : (before : Machine) → Result Machine Refusal → Written
written before (Ok m) = done m
written before (Err refusal) = refused (number_of refusal) before
