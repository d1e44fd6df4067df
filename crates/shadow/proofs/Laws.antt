-- What an access of the shadow is refused by goes by reset.
use Prim.Native.Nat.{ℕ}
use mathlib.Core.Path.{◌≡◌}
use mathlib.Core.Bool.{true, cond}
use lib.Dec.{eqb}
use Rattle.lent.specs.Lengths.{shadow_bytes}
use Rattle.lent.specs.Refusals.{length_refused, in_reset_refused}
use Rattle.lent.proofs.Order.{by_stop_or_1}
use Rattle.machine.specs.declared.Machine.{Machine}
use Rattle.shadow.specs.Shadow.{refused_place}

-- of the machine it goes by reset
pub place_by_reset :
    (m n : Machine) (bytes place : ℕ) → m.reset ≡ n.reset → refused_place m bytes place ≡ refused_place n bytes place
unfolding refused_place
place_by_reset m n bytes place e = rw e

-- in reset it is refused: by 8, or by 1
pub place_in_reset :
    (m : Machine) (bytes place : ℕ) → m.reset ≡ true
    → refused_place m bytes place ≡ cond (eqb bytes shadow_bytes) in_reset_refused length_refused
unfolding refused_place
place_in_reset m bytes place h = rw h (by_stop_or_1 (eqb bytes shadow_bytes) in_reset_refused)
