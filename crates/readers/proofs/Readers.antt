-- The first reader is the first: the statement of specs/Readers.antt.
use Prim.Native.Nat.{ℕ, ◌<◌}
use mathlib.Core.Path.{◌≡◌, refl, ap}
use mathlib.Core.Bool.{Bool, true, false}
use native.Mathlib.Omega.{arith}
use lib.Dec.{ltb}
use borrow.Author.Tests.{ltb-true, ltb-false}
use Rattle.std.specs.Prelude.{Option, Some, None}
use Rattle.std.specs.Bool.{then_some}
use Rattle.memories.specs.declared.view8088.Seen.{Seen}
use Rattle.memories.specs.declared.view8088.Seen.TheVariants.{Shared, Screen, Attribute}
use Rattle.chain.specs.Chain.{Chain, Row, rows, row_at}
use Rattle.chain.proofs.First.{none_passes, first_that_lem}
use Rattle.readers.specs.Readers.{row_reads, first_reader, IsFirst}
use Rattle.chain.specs.Inner.{ahead_of}
use Rattle.readers.specs.Inner.{found}
use Rattle.readers.specs.declared.Reader.{Reader}

-- no row reads a byte of shared memory, nor one that is nowhere
abbrev pub OffScreen : Option Seen → Type 0
OffScreen (Some (Shared place)) = Unit {0}
OffScreen (Some (Screen place)) = ⊥
OffScreen (Some (Attribute place)) = ⊥
OffScreen None = Unit {0}

module _ (c : Chain) (seen : Option Seen) where
  off_screen : OffScreen seen → (row : Row) → row_reads c seen row ≡ false
  off_screen off row = go seen off
    where
      go : (one : Option Seen) → OffScreen one → row_reads c one row ≡ false
      go (Some (Shared place)) h = refl
      go (Some (Screen place)) h = absurd h
      go (Some (Attribute place)) h = absurd h
      go None h = refl

  pub none_off_screen : OffScreen seen → first_reader c seen ≡ rows
  none_off_screen off = none_passes (λ row. row_reads c seen (row_at c row)) (λ row. off_screen off (row_at c row)) 0 rows

pub is_first : IsFirst
is_first c seen =
    let f = first_that_lem (λ row. row_reads c seen (row_at c row)) 0 rows in
    (f.1.0, (f.1.1.0, λ row. f.1.1.1 row (omega arith)))

-- what the search answers
pub reader_found :
    (c : Chain) (seen : Option Seen) (reader : Reader) → Some reader ≡ found c seen
    → (reader.row ≡ first_reader c seen) × ((reader.row < rows) × (reader.ahead ≡ ahead_of c reader.row))
reader_found c seen reader e = go (ltb f rows) refl e
  where
    f : ℕ
    f = first_reader c seen

    go :
        (b : Bool) → ltb f rows ≡ b → Some reader ≡ then_some b (record { row = f; ahead = ahead_of c f })
        → (reader.row ≡ f) × ((reader.row < rows) × (reader.ahead ≡ ahead_of c reader.row))
    go true h e =
        let is : reader ≡ record { row = f; ahead = ahead_of c f } = cc in
        let row : reader.row ≡ f = ap (λ (one : Reader). one.row) is in
        (row, (rw row (ltb-true f rows h), rw row (ap (λ (one : Reader). one.ahead) is)))
    go false h e = absurd cc

pub none_reads : (c : Chain) (seen : Option Seen) → None ≡ found c seen → first_reader c seen ≡ rows
none_reads c seen e = go (ltb (first_reader c seen) rows) _ refl e
  where
    go :
        (b : Bool) (reader : Reader) → ltb (first_reader c seen) rows ≡ b → None ≡ then_some b reader
        → first_reader c seen ≡ rows
    go true reader h e = absurd cc
    go false reader h e = omega (arith, ltb-false _ _ h, (is_first c seen).0)
