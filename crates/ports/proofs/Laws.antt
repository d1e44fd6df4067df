-- What is known of a write to a port by the number that it is answered ahead of the port itself.
use Prim.Native.Nat.{ℕ}
use mathlib.Core.Path.{◌≡◌}
use mathlib.Core.Bool.{true, cond}
use Rattle.std.proofs.lemmas.Bool.Decides.{nat_tests}
use native.Mathlib.Omega.{arith}
use Rattle.lent.proofs.Order.{by_stop_or_1}
use Rattle.lent.specs.Lengths.{shadow_bytes, nvm_bytes}
use Rattle.lent.specs.Refusals.{length_refused, in_reset_refused}
use Rattle.machine.specs.declared.Machine.{Machine}
use Rattle.ports.specs.Ports.{lengths_nvm, refusal_port}

-- the lengths are right where it is not refused by 1
pub lent_nvm :
    (m : Machine) (shadow nvm port : ℕ) {answer : ℕ} → answer ≡ refusal_port m shadow nvm port → (answer ≡ length_refused → ⊥)
    → (shadow ≡ shadow_bytes) × (nvm ≡ nvm_bytes)
unfolding refusal_port lengths_nvm
lent_nvm m shadow nvm port e h = grind (arith, nat_tests)

-- in reset it is refused: by 8, or by 1
pub port_in_reset :
    (m : Machine) (shadow nvm port : ℕ) → m.reset ≡ true
    → refusal_port m shadow nvm port ≡ cond (lengths_nvm shadow nvm) in_reset_refused length_refused
unfolding refusal_port
port_in_reset m shadow nvm port h = rw h (by_stop_or_1 (lengths_nvm shadow nvm) in_reset_refused)
