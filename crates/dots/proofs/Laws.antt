-- Laws about the shades of a cell's dots, and about what is the same of each number of a few.
use Prim.Native.Nat.{ℕ, zero, suc, ◌+◌, ◌≤◌, ◌<◌}
use mathlib.Core.Path.{◌≡◌, refl, sym, ◌∙◌}
use mathlib.Core.List.{List, [], ◌∷◌}
use mathlib.Core.Bool.{Bool, true, false, cond, not, ◌&&◌, beq}
use native.Mathlib.Omega.{arith}
use lib.ListN.{length, get_or, set, length-set}
use lib.Seq.{get_or-set_same, get_or-set_other}
use lib.Dec.{eqb}
use lib.Bits.{bit_xor, xor_zero_l, xor_zero_r, xor_self}
use borrow.Author.Count.{below_more}
use borrow.Author.Rules.{rules}
use Rattle.lent.proofs.Tests.{either}
use Rattle.machine.specs.declared.Machine.{Machine}
use Rattle.dots.specs.Inner.{OfEach}
use Rattle.dots.specs.Attributes.{is_reverse, is_bold, is_underlined, underline_scan, xor, lit, steady, intensity, shade}

-- exclusive or as the code has it
pub xor_differ : (a b : Bool) → not (beq a b) ≡ xor a b
xor_differ true true = refl
xor_differ true false = refl
xor_differ false true = refl
xor_differ false false = refl

-- a lit dot is never less than 1 before it blinks, and no dot is more than 3
pub steady_lit : (attribute : ℕ) → (1 ≤ steady attribute) × (steady attribute < 4)
steady_lit attribute = either (λ (n : ℕ). (1 ≤ n) × (n < 4)) (is_bold attribute) 3 2 (λ h. search rules) (λ h. search rules)

pub less_than_steady : (blinks : Bool) (attribute : ℕ) → cond blinks 1 0 ≤ steady attribute
less_than_steady blinks attribute =
    either (λ (n : ℕ). n ≤ steady attribute) blinks 1 0 (λ h. (steady_lit attribute).0) (λ h. omega arith)

pub shade_small : (m : Machine) (attribute scan : ℕ) (dot : Bool) → shade m attribute scan dot < 4
unfolding shade
shade_small m attribute scan dot =
    either (λ (n : ℕ). n < 4) (lit m attribute scan dot) _ 0 (λ h. omega (arith, steady_lit attribute)) (λ h. search rules)

-- a lit dot of the glyph and an unlit one are shown as what a lit dot shows and as 0, whichever is which; both as one of
-- them where underline lights all
pub shades_differ :
    (m : Machine) (attribute scan : ℕ)
    → cond (is_underlined attribute && eqb scan underline_scan) 0 (intensity m attribute true)
    ≡ bit_xor (shade m attribute scan true) (shade m attribute scan false)
unfolding shade
shades_differ m attribute scan =
    go (is_underlined attribute && eqb scan underline_scan) (xor (is_reverse attribute) m.reverse) (intensity m attribute true)
  where
    go : (underlined reverse : Bool) (shown : ℕ) → cond underlined 0 shown ≡ bit_xor (cond (xor reverse true) shown 0) (cond (xor reverse underlined) shown 0)
    go true true shown = sym (xor_self 0)
    go true false shown = sym (xor_self shown)
    go false true shown = sym (xor_zero_l shown)
    go false false shown = sym (xor_zero_r shown)

-- what is worked out of each number below another
abbrev pub each : {A : Type 0} → (ℕ → A) → ℕ → List A
each of zero = []
each of (suc n) = of n ∷ each of n

pub each_same : {A : Type 0} (f g : ℕ → A) (n : ℕ) → each f n ≡ each g n → (k : ℕ) → k < n → f k ≡ g k
each_same f g zero e k h = absurd (omega arith)
each_same f g (suc n) e k h = below_more (λ (i : ℕ). f i ≡ g i) n (each_same f g n (cc)) (cc) k (omega arith)

-- what is said of each number below another stands at its place in sixteen
pub record Stored (of : ℕ → ℕ) (all : List ℕ) (n : ℕ) : Type 0 where
  pub same : length all ≡ 16
  pub stored : (k : ℕ) → k < n → get_or all k 0 ≡ of k

pub none_stored : {of : ℕ → ℕ} (all : List ℕ) → length all ≡ 16 → Stored of all 0
none_stored all e = record { same = e; stored = λ k h. absurd (omega arith) }

pub one_stored :
    {of : ℕ → ℕ} {all : List ℕ} {n new : ℕ} → Stored of all n → n < 16 → new ≡ of n → Stored of (set all n new) (n + 1)
one_stored {of} {all} {n} {new} s h e =
    record {
      same = simp length-set s.same;
      stored =
          below_more (λ (k : ℕ). get_or (set all n new) k 0 ≡ of k) n
          (λ k l. get_or-set_other all n k new 0 (λ q. omega (arith, q)) ∙ s.stored k l)
          (get_or-set_same all n new 0 (omega (arith, s.same)) ∙ e);
    }

pub all_stored : {of : ℕ → ℕ} {all : List ℕ} {n : ℕ} → Stored of all n → 16 ≤ n → OfEach of all
all_stored s h k l = s.stored k (omega arith)
