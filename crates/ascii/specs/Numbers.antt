-- Numbers as ASCII text.
use Rattle.std.specs.Prelude.{ℕ, ◌+◌, ◌/◌, ◌%◌, List, [], ◌∷◌, ◌++◌, cond, ltb}

-- the digits 0 to 9, then the capitals A to F
unfoldable pub digit : ℕ → ℕ
digit n = cond (ltb n 10) (0x30 + n) (0x41 + n % 10)

-- a number's digit at a power of ten that it reaches
unfoldable pub reached : (n power : ℕ) → List ℕ
reached n power = cond (ltb n power) [] (digit (n / power % 10) ∷ [])

-- a number of at most sixteen bits in decimal
unfoldable pub decimal : ℕ → List ℕ
decimal n = reached n 10000 ++ reached n 1000 ++ reached n 100 ++ reached n 10 ++ (digit (n % 10) ∷ [])

-- a byte as two capital hex digits
unfoldable pub hex : ℕ → List ℕ
hex byte = digit (byte / 16) ∷ digit (byte % 16) ∷ []
