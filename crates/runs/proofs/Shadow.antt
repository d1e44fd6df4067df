-- What changes the shadow, and what the copies move: the statements of specs/Shadow.antt.
use Prim.Native.Nat.{ℕ}
use mathlib.Core.Path.{◌≡◌, refl}
use mathlib.Core.List.{List}
use mathlib.Core.Bool.{false, and-false}
use lib.ListN.{length}
use lib.Dec.{eqb}
use Rattle.lent.specs.Refusals.{refuses}
use Rattle.lent.proofs.Tests.{either}
use Rattle.machine.specs.declared.Machine.{Machine}
use Rattle.diagnostic.specs.Diagnostic.{WrittenPort, rises, write_diagnostic}
use Rattle.ports.specs.Ports.{refusal_port}
use Rattle.runs.specs.World.{Nvm, Shadow}
use Rattle.runs.specs.Shadow.{NothingElse, MovesAll}

-- port 0A leaves the shadow where bit 7 does not rise
not_recalled :
    (m : Machine) (shadow nvm : List ℕ) (code : ℕ) → rises 7 m.held code ≡ false
    → (write_diagnostic m shadow nvm code).shadow ≡ shadow
not_recalled m shadow nvm code h = rw (h, and-false)

pub nothing_else : NothingElse
nothing_else w port code h =
    either Keeps (refuses (refusal_port w.machine (length (w.bytes Shadow)) (length (w.bytes Nvm)) port)) _ _ (λ _. refl)
    (λ _. either Keeps (eqb port 0x04) _ _ (λ _. refl)
    (λ _. either Keeps (eqb port 0x0A) _ _ (λ at. not_recalled w.machine (w.bytes Shadow) (w.bytes Nvm) code (rw at at h))
    (λ _. either Keeps (eqb port 0x0C) _ _ (λ _. refl) (λ _. refl))))
  where
    Keeps : WrittenPort → Type 0
    Keeps left = left.shadow ≡ w.bytes Shadow

pub moves_all : MovesAll
unfolding refusal_port
moves_all w code lent runs = (
  λ saves recalls. (rw (lent, runs, saves, recalls), rw (lent, runs, saves, recalls)),
  λ saves recalls. (rw (lent, runs, saves, recalls), rw (lent, runs, saves)),
)
