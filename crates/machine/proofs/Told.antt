-- What a write to a port tells C is told of one outcome alone.
use mathlib.Core.Path.{◌≡◌, refl}
use Rattle.std.specs.Prelude.{Result, Ok, Err}
use Rattle.lent.specs.declared.refusals.Refusal.{Refusal}
use Rattle.lent.proofs.Told.{one_alone, outcome_at, refused_at}
use Rattle.machine.specs.declared.Machine.{Machine}
use Rattle.machine.specs.declared.Written.{Written}
use Rattle.machine.specs.Written.{written}

module _ (before : Machine) where
  written_back :
      (outcome : Result Machine Refusal) → outcome_at (written before outcome).refusal (written before outcome).machine ≡ outcome
  written_back (Ok after) = refl
  written_back (Err refusal) = refused_at refusal before

  pub written_alone : {one other : Result Machine Refusal} → written before one ≡ written before other → one ≡ other
  written_alone = one_alone (λ (told : Written). outcome_at told.refusal told.machine) written_back
