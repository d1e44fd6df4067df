-- No sentence of a document: what is done twice to an entry comes to the same as what is done once.
use Rattle.std.specs.Prelude.{ℕ, ◌≡◌, Bool, true, false, cond, refl, eqb, ltb}
use Rattle.std.proofs.Common.{ap}
use Rattle.index.specs.Index.{no_row}
use Rattle.index.specs.Inner.{forgotten, lower, unless_numbered}

either_way : (b : Bool) (x : ℕ) → cond b x x ≡ x
either_way true x = refl
either_way false x = refl

pub forgotten_twice : (first entry : ℕ) → forgotten first (forgotten first entry) ≡ forgotten first entry
forgotten_twice first entry = go (ltb entry first) refl
  where
    go : (b : Bool) → ltb entry first ≡ b → forgotten first (cond b entry no_row) ≡ cond b entry no_row
    go true e = ap (λ (b : Bool). cond b entry no_row) e
    go false e = either_way (ltb no_row first) no_row

pub lower_twice : (row entry : ℕ) → lower row (lower row entry) ≡ lower row entry
lower_twice row entry = go (ltb row entry) refl
  where
    go : (b : Bool) → ltb row entry ≡ b → lower row (cond b row entry) ≡ cond b row entry
    go true e = either_way (ltb row row) row
    go false e = ap (λ (b : Bool). cond b row entry) e

pub unless_twice : (row entry : ℕ) → unless_numbered row (unless_numbered row entry) ≡ unless_numbered row entry
unless_twice row entry = go (eqb entry no_row) refl
  where
    go : (b : Bool) → eqb entry no_row ≡ b → unless_numbered row (cond b row entry) ≡ cond b row entry
    go true e = either_way (eqb row no_row) row
    go false e = ap (λ (b : Bool). cond b row entry) e
