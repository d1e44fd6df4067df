use Rattle.std.specs.Prelude.{Some}
use Rattle.chain.specs.Page.{chain_on}
use Rattle.readers.proofs.Walk.{Seeking}
use Rattle.readers.proofs.first_reader.Given as goal

abbrev pub invariant-loop-row : goal.invariant-loop-row
invariant-loop-row l = Seeking (chain_on l.page) (Some l.seen) l.head l.row
