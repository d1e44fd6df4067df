-- A row reads as many places as it counts, and the walk no more than the bounds.
use Prim.Native.Nat.{ℕ, zero, suc, ◌+◌, ◌*◌, ◌≤◌}
use mathlib.Core.Path.{◌≡◌, refl, ap, subst}
use native.Mathlib.Nat.{suc-mul, mul-le-mul_left}
use native.Mathlib.Omega.{arith}
use lib.ListN.{length}
use Rattle.chain.specs.Chain.{Chain, Row, Whole, Torn, Dark, capacity, terminator, first, row_from, next, rows, row_at}
use Rattle.chain.specs.Reading.{reads, reads_to, walk_reads, reads_at_132, from, screen_read, ReadsAsCounted, ReadsAtMost}
use Rattle.chain.specs.declared.Head.{Head}
use Rattle.chain.proofs.Laws.{found_within, capacity_within}

from_length : (place bytes : ℕ) → length (from place bytes) ≡ bytes
unfolding from
from_length place zero = refl
from_length place (suc bytes) = ap suc (from_length (place + 1) bytes)

pub reads_as_counted : ReadsAsCounted
unfolding screen_read reads
reads_as_counted c (Whole head cells) = from_length head.start (cells + 3)
reads_as_counted c (Torn head) = from_length head.start (capacity c.columns head.kind + 1)
reads_as_counted c Dark = refl

module _ (c : Chain) where
  reads_from : (head : Head) → reads c (row_from c head) ≤ c.columns + 3
  unfolding reads row_from terminator
  reads_from head =
      let most = capacity c.columns head.kind in
      grind (arith, capacity_within c.columns head.kind, found_within c.screen head.start 0 (most + 1))

  reads-next : (row : Row) → reads c (next c row) ≤ c.columns + 3
  unfolding next reads
  reads-next row = grind (arith, reads_from)

  pub reads_at : (row : ℕ) → reads c (row_at c row) ≤ c.columns + 3
  unfolding row_at
  reads_at zero = reads_from first
  reads_at (suc row) = reads-next (row_at c row)

  reads_within : (row : ℕ) → reads_to c row ≤ row * (c.columns + 3)
  unfolding reads_to
  reads_within zero = omega arith
  reads_within (suc row) = rw (suc-mul row (c.columns + 3)) (omega (arith, reads_within row, reads_at row))

  -- no walk of some of the rows reads more than all of them at 132 columns
  pub reads_fit : c.columns ≤ 132 → (row : ℕ) → row ≤ rows → reads_to c row ≤ reads_at_132
  reads_fit wide row h =
      let most : row * (c.columns + 3) ≤ row * 135 = mul-le-mul_left row (omega arith) in
      omega (arith, reads_within row)

pub reads_at_most : ReadsAtMost
reads_at_most c = (at 132, at 80)
  where
    at : (n : ℕ) → c.columns ≡ n → walk_reads c ≤ rows * (n + 3)
    at n e = subst (λ (k : ℕ). walk_reads c ≤ rows * (k + 3)) e (reads_within c rows)
