use Rattle.std.proofs.Common.{◌≡◌}
use Rattle.std.specs.Slice.Iter.{chunks_exact_rest, chunks_exact_size}
use Rattle.chain.proofs.Searching.{Passed}
use Rattle.chain.proofs.search.pass_together.Given as goal

abbrev pub invariant-loop-together : goal.invariant-loop-together
invariant-loop-together g l =
    (goal.iterator-loop-together g).can_next l.together-iterator ×
    (goal.iterator-loop-together g).is_finite l.together-iterator
    × (chunks_exact_size l.together-iterator ≡ g.row.N)
    × Passed l.bytes (chunks_exact_rest l.together-iterator) l.passed
