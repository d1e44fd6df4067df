use Rattle.std.proofs.Common.{◌≡◌, take}
use Rattle.std.specs.List.{list_any}
use Rattle.chain.specs.Inner.{is_ff}
use Rattle.chain.proofs.search.has_terminator.Given as goal

abbrev pub invariant-loop-byte : goal.invariant-loop-byte
invariant-loop-byte l = l.has ≡ list_any is_ff (take l.byte-index l.bytes)
