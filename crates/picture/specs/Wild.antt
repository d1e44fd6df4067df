-- Document 02, ticket 1: "each drawing should name the first such row, or none", a row whose link is wild.
use Rattle.std.specs.Prelude.{ℕ, zero, suc, ◌+◌, Bool, Option, Some, None, is_some, unwrap_or, if◌then◌else◌}
use Rattle.chain.specs.Chain.{Chain, rows, row_at}
use Rattle.chain.specs.Wild.{wild}

-- the first of `more` rows from `row` on
unfoldable pub first_wild_from : Chain → (row more : ℕ) → Option ℕ
first_wild_from c row zero = None
first_wild_from c row (suc more) =
    let later = first_wild_from c (row + 1) more in
    if wild c (row_at c row) then Some row else later

-- of all rows, the last one too: its link is read, though nothing is shown after it
abbrev pub first_wild : Chain → Option ℕ
first_wild c = first_wild_from c 0 rows

-- as a flag and a number, which is 0 where no row is named
abbrev pub is_named : Option ℕ → Bool
is_named first = is_some first

abbrev pub row_named : Option ℕ → ℕ
row_named first = unwrap_or first 0
