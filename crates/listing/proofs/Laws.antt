-- The longest text has room in the caller's buffer.
use Rattle.std.proofs.Common.{ℕ, zero, suc, ◌*◌, ◌≤◌, List, length, arith, length-append}
use Rattle.std.proofs.lemmas.Bool.Decides.{nat_tests}
use Rattle.chain.specs.Chain.{rows}
use Rattle.picture.specs.Draw.{DrawnPicture}
use Rattle.ascii.specs.Ascii.{ascii}
use Rattle.ascii.proofs.Lengths.{decimal_fits, hex_length}
use Rattle.listing.specs.Listing.{heading, counted, row_and_start, line, line_of, lines_to, refused_text, text_of, heading_most, line_most, text_bytes}

heading_fits : (columns reads : ℕ) → length (heading columns reads) ≤ heading_most
unfolding heading ascii
heading_fits columns reads = simp length-append (omega (arith, decimal_fits columns, decimal_fits reads))

counted_fits : (count : ℕ) → length (counted count) ≤ 5
unfolding counted ascii
counted_fits count = grind (arith, nat_tests, decimal_fits count)

line_fits : (row high low kind count : ℕ) → length (line row high low kind count) ≤ line_most
unfolding line row_and_start ascii
line_fits row high low kind count = simp length-append
    (omega (arith, decimal_fits row, hex_length high, hex_length low, decimal_fits kind, counted_fits count))

line_of_fits : (picture : List ℕ) (row : ℕ) → length (line_of picture row) ≤ line_most
unfolding line_of
line_of_fits picture row = grind (arith, nat_tests, line_fits)

lines_fit : (picture : List ℕ) (n : ℕ) → length (lines_to picture n) ≤ n * line_most
unfolding lines_to
lines_fit picture zero = omega arith
lines_fit picture (suc row) = simp length-append (omega (arith, lines_fit picture row, line_of_fits picture row))

refused_fits : (number : ℕ) → length (refused_text number) ≤ heading_most
unfolding refused_text ascii
refused_fits number = simp length-append (omega (arith, decimal_fits number))

pub text_fits : (columns : ℕ) (left : DrawnPicture) → length (text_of columns left) ≤ text_bytes
unfolding text_of
text_fits columns left = grind (arith, nat_tests, length-append {A = ℕ}, heading_fits, lines_fit left.picture rows, refused_fits)
