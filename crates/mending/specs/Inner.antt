-- No sentence of document 01: what our own functions promise each other. Here those that mend.
use Rattle.std.specs.Prelude.{ℕ, zero, suc, ◌+◌, ◌≤◌, ◌<◌, ◌≡◌}
use Rattle.chain.specs.Chain.{Chain, places, row_at}
use Rattle.records.specs.Inner.{read_of}
use Rattle.records.specs.declared.RowRead.{RowRead}

-- a row that was read lies in memory
pub record InPlaces (read : RowRead) : Type 0 where
  pub reads : read.reads ≤ places
  pub cells : read.cells < places

-- what is kept beside a picture, after each of so many rows from one on was read and noted there
unfoldable pub RowsNoted :
    {K : Type 0} → (noted : (row : ℕ) → RowRead → (before after : K) → Type 0) → Chain → (from many : ℕ)
    → (before after : K) → Type 0
RowsNoted noted c from zero before after = before ≡ after
RowsNoted {K} noted c from (suc many) before after =
    (now : K)
    × (RowsNoted noted c from many before now × noted (from + many) (read_of c (row_at c (from + many))) now after)
