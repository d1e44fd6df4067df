-- What is told of an answer in numbers is told of one outcome alone.
use mathlib.Core.Path.{◌≡◌, refl}
use Prim.Native.Nat.{ℕ}
use Rattle.std.specs.Prelude.{Result, Ok, Err}
use Rattle.lent.specs.declared.refusals.Refusal.{Refusal}
use Rattle.lent.proofs.Told.{one_alone, outcome_at, refused_at}
use Rattle.explaining.specs.Call.{in_numbers}
use Rattle.explaining.specs.declared.Why.{Why}
use Rattle.explaining.specs.declared.Why.TheVariants.{Dark}

back : Result Why ℕ → Result Why Refusal
back (Ok answer) = Ok answer
back (Err number) = outcome_at number (Dark 0)

there_and_back : (outcome : Result Why Refusal) → back (in_numbers outcome) ≡ outcome
unfolding back
there_and_back (Ok answer) = refl
there_and_back (Err refusal) = refused_at refusal (Dark 0)

pub answer_alone : {one other : Result Why Refusal} → in_numbers one ≡ in_numbers other → one ≡ other
answer_alone = one_alone back there_and_back
