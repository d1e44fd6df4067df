use Prim.Native.Nat.{◌-◌}
use Rattle.chain.specs.Page.{chain_on}
use Rattle.mending.specs.Inner.{RowsNoted}
use Rattle.mending.proofs.Walk.{Mending}
use Rattle.mending.proofs.mend.Given as goal

abbrev pub invariant-loop-row : goal.invariant-loop-row
invariant-loop-row g l = record {
  picture_mended : Mending (chain_on l.page) l.fn.first.row l.initial.picture l.picture l.ahead l.marks l.row;
  rows_noted : RowsNoted g.B.Beside.noted (chain_on l.page) l.fn.first.row (l.row - l.fn.first.row) l.initial.kept l.kept;
}
