-- Laws about the places that a row reads: how far a place lies from the row's start tells whether it is one of them.
use Prim.Native.Nat.{ℕ, zero, suc, ◌+◌, ◌-◌, ◌%◌, ◌≤◌, ◌<◌}
use mathlib.Core.Path.{◌≡◌, refl, sym, ◌∙◌, ap}
use mathlib.Core.List.{List, [], ◌∷◌, ◌++◌}
use mathlib.Core.Bool.{Bool, true, false, cond, ◌||◌}
use native.Mathlib.Nat.{mod-mod}
use native.Mathlib.Omega.{arith}
use lib.Dec.{eqb, ltb}
use borrow.Author.Tests.{lt-ltb, le-ltb, eq-eqb, ne_eqb, eqb-true, eqb-false}
use Rattle.std.specs.Prelude.{Option, Some, None}
use Rattle.memories.specs.declared.view8088.Seen.{Seen}
use Rattle.memories.specs.declared.view8088.Seen.TheVariants.{Shared, Screen, Attribute}
use Rattle.chain.specs.Chain.{places}
use Rattle.chain.specs.Reading.{from}
use Rattle.readers.specs.Readers.{among, reads_byte}

-- how many bytes after a start a place comes
abbrev pub offset : (place start : ℕ) → ℕ
offset place start = (place + places - start) % places

module _ (place start : ℕ) (lies : place < places) (begins : start < places) where
  -- a place `bytes` after the start is the one that lies as far from it
  same_offset :
      (at bytes : ℕ) → at ≡ start + bytes → bytes < places → (b : Bool) → eqb place (at % places) ≡ b
      → eqb (offset place start) bytes ≡ b
  same_offset at bytes e under true h =
      let same = eqb-true place (at % places) h in
      eq-eqb (offset place start) bytes (omega arith)
  same_offset at bytes e under false h =
      let other = eqb-false place (at % places) h in
      ne_eqb (offset place start) bytes (λ same. other (omega arith))

  -- the places from `bytes` after the start on, where no nearer one is the place
  from_on :
      (n at bytes : ℕ) → at ≡ start + bytes → bytes ≤ offset place start → bytes + n ≤ places
      → among place (from at n) ≡ ltb (offset place start) (bytes + n)
  unfolding among from
  from_on zero at bytes e near room = sym (le-ltb (offset place start) (bytes + 0) (omega arith))
  from_on (suc n) at bytes e near room =
      go (eqb place (at % places)) refl (from_on n (at + 1) (bytes + 1) (omega arith))
    where
      go :
          (b : Bool) → eqb place (at % places) ≡ b
          → (bytes + 1 ≤ offset place start → bytes + 1 + n ≤ places
          → among place (from (at + 1) n) ≡ ltb (offset place start) (bytes + 1 + n))
          → among place (from at (suc n)) ≡ ltb (offset place start) (bytes + suc n)
      go true h later =
          let here = eqb-true (offset place start) bytes (same_offset at bytes e (omega arith) true h) in
          rw h (sym (lt-ltb (offset place start) (bytes + suc n) (omega arith)))
      go false h later =
          let other : (offset place start ≡ bytes → ⊥) =
          eqb-false (offset place start) bytes (same_offset at bytes e (omega arith) false h) in
          let on : bytes + 1 ≤ offset place start = omega (arith, other) in
          let one : bytes + 1 + n ≡ bytes + suc n = omega arith in
          rw h (later on (omega arith) ∙ ap (ltb (offset place start)) one)

  pub among-from : (n : ℕ) → n ≤ places → among place (from start n) ≡ ltb (offset place start) n
  among-from n room =
      let all : 0 + n ≡ n = omega arith in
      from_on n start 0 (omega arith) (omega arith) (omega arith) ∙ ap (ltb (offset place start)) all

-- a place beyond the last is the place modulo 4,096
pub from_over : (place : ℕ) → from (place % places) 1 ≡ from place 1
unfolding from
from_over place = rw (mod-mod place places)

pub among_both : (place : ℕ) (first second : List ℕ) → among place (first ++ second) ≡ (among place first || among place second)
unfolding among
among_both place [] second = refl
among_both place (one ∷ first) second = go (eqb place one) (among_both place first second)
  where
    go :
        (b : Bool) → among place (first ++ second) ≡ (among place first || among place second)
        → cond b true (among place (first ++ second)) ≡ (cond b true (among place first) || among place second)
    go true later = refl
    go false later = later

-- a dark row reads nothing
pub none_read : (seen : Option Seen) → reads_byte seen [] [] ≡ false
unfolding among
none_read (Some (Shared place)) = refl
none_read (Some (Screen place)) = refl
none_read (Some (Attribute place)) = refl
none_read None = refl
