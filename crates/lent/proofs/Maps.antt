-- Laws about a map over a list, done one element after the other.
use Prim.Native.Nat.{ℕ, zero, suc, ◌+◌, ◌≤◌, ◌<◌}
use mathlib.Core.Path.{◌≡◌, refl, sym, ap, ◌∙◌}
use mathlib.Core.List.{List, [], ◌∷◌, map}
use native.Mathlib.Numerals.{add-one}
use native.Mathlib.Omega.{arith}
use lib.ListN.{length, get_or, set, replicate, length-set}

-- a map over a list that has come to a place: the elements ahead of it are changed, the others are not yet
pub partly : (ℕ → ℕ) → List ℕ → (place : ℕ) → List ℕ
partly f [] place = []
partly f (x ∷ l) zero = x ∷ l
partly f (x ∷ l) (suc place) = f x ∷ partly f l place

pub partly_begins : (f : ℕ → ℕ) (l : List ℕ) → partly f l 0 ≡ l
unfolding partly
partly_begins f [] = refl
partly_begins f (x ∷ l) = refl

pub partly_goes_on :
    (f : ℕ → ℕ) (l : List ℕ) (place : ℕ) → place < length l
    → set (partly f l place) place (f (get_or (partly f l place) place 0)) ≡ partly f l (place + 1)
unfolding partly
partly_goes_on f [] place h = absurd (omega arith)
partly_goes_on f (x ∷ l) zero h = ap (λ (rest : List ℕ). f x ∷ rest) (sym (partly_begins f l))
partly_goes_on f (x ∷ l) (suc place) h =
    rw (add-one (suc place)) (ap (λ (rest : List ℕ). f x ∷ rest) (rw add-one at (partly_goes_on f l place (omega arith))))

pub partly_ends : (f : ℕ → ℕ) (l : List ℕ) → partly f l (length l) ≡ map f l
unfolding partly
partly_ends f [] = refl
partly_ends f (x ∷ l) = ap (λ (rest : List ℕ). f x ∷ rest) (partly_ends f l)

-- each element is changed by itself
pub mapped_own : (f : ℕ → ℕ) (l : List ℕ) (place : ℕ) → place < length l → get_or (map f l) place 0 ≡ f (get_or l place 0)
mapped_own f [] place h = absurd (omega arith)
mapped_own f (x ∷ l) zero h = refl
mapped_own f (x ∷ l) (suc place) h = mapped_own f l place (omega arith)

-- a loop that maps over lent bytes, where it has come to one of them
pub record Mapping (f : ℕ → ℕ) (old now : List ℕ) (place : ℕ) : Type 0 where
  pub within : place ≤ length old
  pub same : length now ≡ length old
  pub so_far : now ≡ partly f old place

pub mapping_begins : (f : ℕ → ℕ) (l : List ℕ) → Mapping f l l 0
mapping_begins f l = record { within = omega arith; same = refl; so_far = sym (partly_begins f l) }

module _ {f : ℕ → ℕ} {old now : List ℕ} {place : ℕ} (m : Mapping f old now place) where
  pub mapping_goes_on : {x : ℕ} → place < length now → x ≡ f (get_or now place 0) → Mapping f old (set now place x) (place + 1)
  mapping_goes_on {x} more e =
      record {
        within = omega (arith, m.same);
        same = length-set now place x ∙ m.same;
        so_far = rw (e, m.so_far) (partly_goes_on f old place (omega (arith, m.same)));
      }

  pub mapping_ends : length now ≤ place → now ≡ map f old
  mapping_ends all =
      let last : place ≡ length old = omega (arith, m.same, m.within) in
      m.so_far ∙ ap (partly f old) last ∙ partly_ends f old

-- a map to one number
pub map_to_one : (x : ℕ) (l : List ℕ) → map (λ (y : ℕ). x) l ≡ replicate (length l) x
map_to_one x [] = refl
map_to_one x (y ∷ l) = ap (λ (rest : List ℕ). x ∷ rest) (map_to_one x l)
