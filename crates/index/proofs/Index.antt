-- Laws about entries one after the other: how many they are, which is which, and what makes a list of them.
use Prim.Native.Nat.{ℕ, zero, suc, ◌<◌}
use mathlib.Core.Path.{◌≡◌, refl, sym, ◌∙◌}
use mathlib.Core.List.{List, [], ◌∷◌}
use mathlib.Core.Bool.{Bool, true, false}
use native.Mathlib.Omega.{arith}
use lib.ListN.{length, get_or, length-append, get_or-append}
use lib.Seq.{get_or_at, ext_get_or}
use lib.Dec.{eqb}
use borrow.Author.Tests.{eqb-true, eqb-false}
use Rattle.index.specs.Index.{entries}

pub entries_length : (f : ℕ → ℕ) (n : ℕ) → length (entries f n) ≡ n
unfolding entries
entries_length f zero = refl
entries_length f (suc n) = length-append (entries f n) (f n ∷ []) ∙ omega (arith, entries_length f n)

pub entry_at : (f : ℕ → ℕ) (n at d : ℕ) → at < n → get_or (entries f n) at d ≡ f at
unfolding entries
entry_at f zero at d h = absurd (omega arith)
entry_at f (suc n) at d h = go (eqb at n) refl (entry_at f n at d)
  where
    long : length (entries f n) ≡ n
    long = entries_length f n

    go : (b : Bool) → eqb at n ≡ b → (at < n → get_or (entries f n) at d ≡ f at) → get_or (entries f (suc n)) at d ≡ f at
    go true e earlier = rw (eqb-true at n e) (get_or_at (entries f n) (f n) [] d n long)
    go false e earlier =
        let other : (at ≡ n → ⊥) = eqb-false at n e in
        let under : at < n = omega (arith, other) in
        get_or-append (entries f n) (f n ∷ []) d at (omega (arith, long)) ∙ earlier under

pub are_entries :
    (l : List ℕ) (f : ℕ → ℕ) (n : ℕ) → length l ≡ n → ((at : ℕ) → at < n → get_or l at 0 ≡ f at) → l ≡ entries f n
are_entries l f n long each =
    ext_get_or 0 l (entries f n) (long ∙ sym (entries_length f n))
    (λ at h. each at (omega arith) ∙ sym (entry_at f n at 0 (omega arith)))

-- what a list has at a place does not depend on what stands for a place that it has not
pub any_default : (d e : ℕ) (l : List ℕ) (at : ℕ) → at < length l → get_or l at d ≡ get_or l at e
any_default d e [] at h = absurd (omega arith)
any_default d e (x ∷ l) zero h = refl
any_default d e (x ∷ l) (suc at) h = any_default d e l at (omega arith)
