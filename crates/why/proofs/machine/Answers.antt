-- The write is accepted, and it sets the columns of the machine at power-up.
use Rattle.std.proofs.Common.{◌≡◌, refl, ap, ◌∙◌}
use Rattle.std.specs.Prelude.{Result, Ok, Err}
use Rattle.std.specs.Result.{result_unwrap_or}
use Rattle.lent.specs.declared.refusals.Refusal.{Refusal}
use Rattle.machine.specs.Settings.{columns}
use Rattle.machine.specs.Written.{written}
use Rattle.machine.specs.declared.Machine.{Machine}
use Rattle.ports.specs.Ports.{lengths_nvm, refusal_port}
use Rattle.why.proofs.machine.Goals as goal

written_or_stays : (before : Machine) (outcome : Result Machine Refusal) → result_unwrap_or outcome before ≡ (written before outcome).machine
written_or_stays before (Ok after) = refl
written_or_stays before (Err refusal) = refl

pub returns : goal.returns
unfolding refusal_port lengths_nvm
returns c =
    rw (c.if-not-columns132.false, c.unwrap_or.ensures, written_or_stays)
    (ap (λ w. columns w.answer.machine) c.write_port.ensures ∙ rw c.power_up-machine.ensures)
