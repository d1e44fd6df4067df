-- Laws about what the two processors see: when a range holds an address, what the lengths tell, that a place seen lies
-- in its memory, and by what a store is refused.
use Prim.Native.Nat.{ℕ, ◌+◌, ◌≤◌, ◌<◌}
use mathlib.Core.Path.{◌≡◌, refl, subst, sym, ◌∙◌}
use mathlib.Core.List.{List}
use mathlib.Core.Bool.{Bool, true, false, cond}
use native.Mathlib.Omega.{arith}
use Rattle.std.specs.Prelude.{Option, Some, None}
use Rattle.std.proofs.lemmas.Bool.Decides.{nat_tests}
use lib.Dec.{eqb}
use borrow.Author.Tests.{not-false, eqb-true, lt-ltb, le-ltb}
use Rattle.lent.specs.Lengths.{shared_bytes, screen_bytes, attribute_bytes, private_bytes}
use Rattle.lent.specs.Refusals.{accepted, refuses, length_refused, z80_held_refused, in_reset_refused}
use Rattle.lent.proofs.Order.{by_stop_or_1}
use Rattle.lent.proofs.Tests.{either}
use Rattle.machine.specs.Settings.{z80_runs}
use Rattle.machine.specs.declared.Machine.{Machine}
use Rattle.memories.specs.View8088.{within, seen_8088, lengths_8088, refused_access, refusal_8088, Stored8088, store_seen, store_8088}
use Rattle.memories.specs.ViewZ80.{lengths_z80, refusal_z80, shared_from, is_private}
use Rattle.memories.specs.declared.view8088.Seen.{Seen}
use Rattle.memories.specs.declared.view8088.Seen.TheVariants.{Shared, Screen, Attribute}

module _ (first last a : ℕ) where
  pub inside : first ≤ a → a ≤ last → within first last a ≡ true
  unfolding within
  inside h k = grind (arith, nat_tests)

  pub under : a < first → within first last a ≡ false
  unfolding within
  under h = grind (arith, nat_tests)

  pub over : last < a → within first last a ≡ false
  unfolding within
  over h = grind (arith, nat_tests)

  pub told : within first last a ≡ true → (first ≤ a) × (a ≤ last)
  unfolding within
  told e = grind (arith, nat_tests)

-- the place that is seen lies in its memory, as far from the memory's first place as the address from its first address
abbrev pub Lies : ℕ → Option Seen → Type 0
Lies a (Some (Shared place)) = (place < shared_bytes) × (a ≡ 0x00000 + place)
Lies a (Some (Screen place)) = (place < screen_bytes) × (a ≡ 0xEE000 + place)
Lies a (Some (Attribute place)) = (place < attribute_bytes) × (a ≡ 0xEF000 + place)
Lies a None = Unit {0}

lies : (a : ℕ) → Lies a (seen_8088 a)
unfolding seen_8088 within
lies a = grind (arith, nat_tests)

pub placed : (a : ℕ) {answer seen : Option Seen} → answer ≡ seen_8088 a → answer ≡ seen → Lies a seen
placed a e h = subst (Lies a) (sym e ∙ h) (lies a)

-- the lengths are those of the list where the test holds
pub lent_8088 :
    {shared screen attribute : ℕ} → lengths_8088 shared screen attribute ≡ true
    → (shared ≡ shared_bytes) × ((screen ≡ screen_bytes) × (attribute ≡ attribute_bytes))
unfolding lengths_8088
lent_8088 e = grind (arith, nat_tests)

-- what is known of an access of the 8088 by the number that it is answered
module _ (m : Machine) (lengths : Bool) (address : ℕ) {answer : ℕ} (e : answer ≡ refused_access m lengths address) where
  pub accepted_8088 : answer ≡ accepted → refused_access m lengths address ≡ accepted
  accepted_8088 h = sym e ∙ h

  -- the lengths are right where it is not refused by 1
  pub right_8088 : (answer ≡ length_refused → ⊥) → lengths ≡ true
  unfolding refused_access
  right_8088 h = grind (arith, nat_tests)

-- an access that is not refused is made out of reset, with the right lengths
module _ (m : Machine) (lengths : Bool) (address : ℕ) (h : refuses (refused_access m lengths address) ≡ false) where
  pub accepted_right : (lengths ≡ true) × (m.reset ≡ false)
  unfolding refused_access
  accepted_right = grind (arith, nat_tests)

-- of the machine it goes by reset
pub access_by_reset :
    (m n : Machine) (lengths : Bool) (address : ℕ) → m.reset ≡ n.reset
    → refused_access m lengths address ≡ refused_access n lengths address
unfolding refused_access
access_by_reset m n lengths address e = rw e

-- in reset it is refused: by 8, or by 1
pub access_in_reset :
    (m : Machine) (lengths : Bool) (address : ℕ) → m.reset ≡ true
    → refused_access m lengths address ≡ cond lengths in_reset_refused length_refused
unfolding refused_access
access_in_reset m lengths address h = rw h (by_stop_or_1 lengths in_reset_refused)

-- they are where an access of the Z80 is not refused by 1
pub lent_z80 :
    (m : Machine) (private shared : ℕ) {answer : ℕ} → answer ≡ refusal_z80 m private shared → (answer ≡ length_refused → ⊥)
    → (private ≡ private_bytes) × (shared ≡ shared_bytes)
unfolding lengths_z80 refusal_z80
lent_z80 m private shared e h = grind (arith, nat_tests)

pub accepted_z80 :
    (m : Machine) (private shared : ℕ) {answer : ℕ} → answer ≡ refusal_z80 m private shared → answer ≡ accepted
    → refusal_z80 m private shared ≡ accepted
accepted_z80 m private shared e h = sym e ∙ h

-- of the machine it goes by the one bit
pub refusal_by_bit :
    (m n : Machine) (private shared : ℕ) → z80_runs m ≡ z80_runs n → refusal_z80 m private shared ≡ refusal_z80 n private shared
unfolding refusal_z80
refusal_by_bit m n private shared e = rw e

-- while the Z80 is held, it is refused: by 7, or by 1
pub refusal_held :
    (m : Machine) (private shared : ℕ) → z80_runs m ≡ false
    → refusal_z80 m private shared ≡ cond (lengths_z80 private shared) z80_held_refused length_refused
unfolding refusal_z80
refusal_held m private shared h = rw h (by_stop_or_1 (lengths_z80 private shared) z80_held_refused)

pub below0800 : (a : ℕ) → a < shared_from → is_private a ≡ true
unfolding is_private
below0800 a h = lt-ltb a shared_from h

pub from0800 : (a : ℕ) → shared_from ≤ a → is_private a ≡ false
unfolding is_private
from0800 a h = le-ltb a shared_from h

-- a number that refuses nothing is that of an accepted call
pub is_accepted : (refusal : ℕ) → refuses refusal ≡ false → refusal ≡ accepted
is_accepted refusal h = eqb-true refusal accepted (not-false (eqb refusal accepted) h)

-- a byte that is stored somewhere is accepted
pub seen_accepted :
    (seen : Option Seen) (shared screen attribute : List ℕ) (byte : ℕ) → (store_seen seen shared screen attribute byte).refusal ≡ accepted
seen_accepted (Some (Shared place)) shared screen attribute byte = refl
seen_accepted (Some (Screen place)) shared screen attribute byte = refl
seen_accepted (Some (Attribute place)) shared screen attribute byte = refl
seen_accepted None shared screen attribute byte = refl

-- the number that a store answers is that of the access
pub store_refusal :
    (m : Machine) (shared screen attribute : List ℕ) (address byte : ℕ)
    → (store_8088 m shared screen attribute address byte).refusal ≡ refusal_8088 m shared screen attribute address
store_refusal m shared screen attribute address byte =
    let refusal = refusal_8088 m shared screen attribute address in
    either (λ (left : Stored8088). left.refusal ≡ refusal) (refuses refusal) _ _ (λ _. refl)
    (λ h. seen_accepted (seen_8088 address) shared screen attribute byte ∙ sym (is_accepted refusal h))
