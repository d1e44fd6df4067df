-- Document 01, "Numbers of refusal": "A refusal returns its number, with byte read, marks, read count and all other
-- numbers 0, no row named and a part of no bytes; all buffers and the machine stay."
use Rattle.std.specs.Prelude.{ℕ, ◌≡◌, List, [], ◌∷◌}
use Rattle.lent.specs.Refusals.{accepted}
use Rattle.runs.specs.World.{World, Call, after, answer}

abbrev pub AllZero : List ℕ → Type 0
AllZero [] = Unit {0}
AllZero (number ∷ numbers) = (number ≡ 0) × AllZero numbers

abbrev pub ChangesNothing : Type 0
ChangesNothing =
    (call : Call) (w : World) → ((answer call w).refusal ≡ accepted → ⊥)
    → (after call w ≡ w) × AllZero (answer call w).numbers
