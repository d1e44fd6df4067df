use Rattle.std.proofs.Common.{arith, ℕ}
use Rattle.std.proofs.lemmas.List.{length-take-le}
use Rattle.std.proofs.lemmas.Grind.{common_steps}
use Rattle.ascii.proofs.Laws.{with_all}
use Rattle.listing.specs.Listing.{list_rows}
use Rattle.listing.proofs.Laws.{text_fits}
use Rattle.listing.proofs.list_rows.Goals as goal

pub returns-clause-text_after : goal.returns-clause-text_after
unfolding list_rows
returns-clause-text_after c = grind (arith, common_steps, with_all, text_fits)

pub returns-clause-bytes_in_bounds : goal.returns-clause-bytes_in_bounds
returns-clause-bytes_in_bounds c = grind (arith, common_steps, length-take-le {A = ℕ})
