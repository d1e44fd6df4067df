-- Laws about the first wild row: how a walk that goes from row to row comes to name it, and what it is.
use Prim.Native.Nat.{ℕ, suc, ◌+◌, ◌-◌, ◌≤◌, ◌<◌}
use mathlib.Core.Path.{◌≡◌, refl}
use native.Mathlib.Omega.{arith}
use Rattle.std.proofs.lemmas.Bool.Decides.{nat_tests}
use Rattle.chain.specs.Chain.{Chain, rows, row_at}
use Rattle.chain.specs.Wild.{wild}
use Rattle.picture.specs.Wild.{first_wild_from, first_wild}
use Rattle.picture.specs.Inner.{named}
use Rattle.std.specs.Prelude.{Option, None}
use Rattle.std.specs.Option.{option_or}

-- a walk that has passed some rows and named one of them, or none
abbrev pub Naming : Chain → Option ℕ → (row : ℕ) → Type 0
Naming c before row = first_wild c ≡ option_or before (first_wild_from c row (rows - row))

pub none_passed : (c : Chain) → Naming c None 0
none_passed c = refl

pub one_passed :
    (c : Chain) (before : Option ℕ) (row : ℕ) → Naming c before row → row < rows
    → Naming c (named before row (wild c (row_at c row))) (row + 1)
unfolding first_wild_from
one_passed c before row passed more =
    let left : rows - row ≡ suc (rows - (row + 1)) = omega arith in
    let on = rw left at passed in
    grind (arith, nat_tests, on)

pub all_passed : (c : Chain) (before : Option ℕ) (row : ℕ) → Naming c before row → rows ≤ row → before ≡ first_wild c
unfolding first_wild_from
all_passed c before row passed all =
    let left : rows - row ≡ 0 = omega arith in
    let on = rw left at passed in
    grind (arith, on)
