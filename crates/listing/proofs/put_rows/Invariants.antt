use Rattle.std.proofs.Common.{◌≡◌}
use Rattle.ascii.specs.Text.{with_words}
use Rattle.listing.specs.Listing.{text_bytes, lines_to}
use Rattle.listing.proofs.put_rows.Given as goal

abbrev pub invariant-loop-row : goal.invariant-loop-row
invariant-loop-row l = l.lines ≡ with_words text_bytes l.initial.lines (lines_to l.picture l.row)
