-- Laws about the chain: the search for a terminator, a line's capacity, what lies ahead, one row and those after it.
use Rattle.std.proofs.Common.{◌≡◌, ◌≤◌, ◌<◌, ◌+◌, ℕ, zero, suc, List, Some, get_or, refl, sym, ap, arith}
use Rattle.std.proofs.Math.Nat.{mod-eq_of_lt}
use Rattle.std.proofs.lemmas.Bool.Decides.{nat_tests}
use Rattle.chain.specs.Chain.{Chain, Row, Whole, Torn, Dark, places, byte_at, capacity, first_ff, next, row_at}
use Rattle.chain.specs.Inner.{row_ahead, ahead_after, ahead_of}

-- a place ahead of the end of memory is the byte's own
pub straight : (memory : List ℕ) (place : ℕ) → place < places → get_or memory place 0 ≡ byte_at memory place
unfolding byte_at
straight memory place under = ap (λ (p : ℕ). get_or memory p 0) (sym (mod-eq_of_lt under))

-- what a search finds is one of the bytes that it looks at
pub found_within :
    (screen : List ℕ) (start cells bytes : ℕ) {n : ℕ} → first_ff screen start cells bytes ≡ Some n → n < cells + bytes
unfolding first_ff
found_within screen start cells zero e = grind (arith, nat_tests)
found_within screen start cells (suc bytes) e =
    grind (arith, nat_tests, found_within screen start (cells + 1) bytes)

pub capacity_within : (columns kind : ℕ) → capacity columns kind ≤ columns
unfolding capacity
capacity_within columns kind = grind (arith, nat_tests)

-- what lies ahead after a row is the row after it
leads_on : (c : Chain) (row : Row) → row_ahead c (ahead_after c row) ≡ next c row
unfolding next
leads_on c (Whole head cells) = refl
leads_on c (Torn head) = refl
leads_on c Dark = refl

pub ahead_leads : (c : Chain) (row : ℕ) → row_ahead c (ahead_of c row) ≡ row_at c row
unfolding ahead_of row_at
ahead_leads c zero = refl
ahead_leads c (suc row) = leads_on c (row_at c row)

-- what holds of one row, and of those after it up to a last one
pub one_and_later :
    (P : ℕ → Type 0) (row last : ℕ) → P row → ((r : ℕ) → row + 1 ≤ r → r < last → P r)
    → (r : ℕ) → row ≤ r → r < last → P r
one_and_later P row last one later r from under = grind (arith, nat_tests, later r)
