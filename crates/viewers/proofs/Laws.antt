-- Laws about the marks that wait.
use Prim.Native.Nat.{ℕ, ◌<◌}
use mathlib.Core.Path.{◌≡◌, refl, ap}
use mathlib.Core.List.{List, [], ◌∷◌, map}
use lib.ListN.{length, get_or}
use lib.Bits.{or_zero_r}
use Rattle.lent.proofs.Maps.{mapped_own}
use Rattle.marks.specs.Marks.{joined}
use Rattle.viewers.specs.Viewers.{added}
use Rattle.viewers.specs.declared.Viewers.{Viewers}

-- no marks leave the viewers as they were
pub none_added : (v : Viewers) → added v 0 ≡ v
none_added v = ap (λ (waiting : List ℕ). record { waiting = waiting }) (go v.waiting)
  where
    go : (l : List ℕ) → map (λ (waits : ℕ). joined waits 0) l ≡ l
    go [] = refl
    go (x ∷ l) = rw (or_zero_r x, go l)

-- what waits for a viewer then
pub added_own :
    (v : Viewers) (marks viewer : ℕ) → viewer < length v.waiting
    → get_or (added v marks).waiting viewer 0 ≡ joined (get_or v.waiting viewer 0) marks
added_own v marks = mapped_own (λ (waits : ℕ). joined waits marks) v.waiting
