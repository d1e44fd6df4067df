-- Documents 01 and 02 ask for the first row of which something holds: the first that reads a byte, that scrolls.
use Rattle.std.specs.Prelude.{ℕ, zero, suc, ◌+◌, Bool, if◌then◌else◌}

-- the first of `more` rows from `row` on that passes a test; where none of them does, the number after theirs
unfoldable pub first_that : (test : ℕ → Bool) → (row more : ℕ) → ℕ
first_that test row zero = row
first_that test row (suc more) = let later = first_that test (row + 1) more in if test row then row else later
