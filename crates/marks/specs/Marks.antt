-- Document 01, "The picture": "a number whose bit r is set exactly when record r changed". Document 02, ticket 7, adds
-- marks to marks.
use Rattle.std.specs.Prelude.{ℕ, zero, suc, ◌+◌, ◌*◌, ◌/◌, ◌%◌, ◌^◌, ◌≡◌, Bool, true, cond, ◌&&◌, ◌||◌, eqb, ltb}
use Rattle.std.specs.Int.Bits.{bit_or}

-- bit r of a number
unfoldable pub bit_set : (marks row : ℕ) → Bool
bit_set marks row = eqb (marks / 2 ^ row % 2) 1

-- a number with no bit from `row` on, and with bit `row` if the test holds
abbrev pub marked : (marks row : ℕ) → Bool → ℕ
marked marks row test = marks + cond test 1 0 * 2 ^ row

-- the number that has the bits of the first rows for which a test holds
unfoldable pub marks_to : (ℕ → Bool) → (rows : ℕ) → ℕ
marks_to test zero = 0
marks_to test (suc row) = marked (marks_to test row) row (test row)

-- bit r is set exactly when the test holds of row r
abbrev pub BitByBit : Type 0
BitByBit = (test : ℕ → Bool) (rows row : ℕ) → bit_set (marks_to test rows) row ≡ (ltb row rows && test row)

-- 02, ticket 7: "all rows"
abbrev pub all_marked : (rows : ℕ) → ℕ
all_marked rows = marks_to (λ row. true) rows

-- "adds its marks": the marks of both
abbrev pub joined : (one other : ℕ) → ℕ
joined one other = bit_or one other

-- a row is among them exactly when it is among the ones or the others
abbrev pub JoinedBitByBit : Type 0
JoinedBitByBit = (one other row : ℕ) → bit_set (joined one other) row ≡ (bit_set one row || bit_set other row)
