-- The program's arguments: the words of a row and of a column, and what they ask.
use Rattle.std.specs.Prelude.{ℕ, ◌+◌, ◌-◌, ◌*◌, List, [], ◌∷◌, Bool, Option, Some, None, cond, ◌&&◌, leb}
use Rattle.why.specs.declared.arguments.Asked.{Asked}

-- the value of a decimal digit
abbrev pub digit : (byte : ℕ) → Option ℕ
digit byte = cond (leb 0x30 byte && leb byte 0x39) (Some (byte - 0x30)) None

-- a number and its last digit
abbrev pub and_digit : Option ℕ → Option ℕ → Option ℕ
and_digit (Some number) (Some ones) = Some (number * 10 + ones)
and_digit (Some number) None = None
and_digit None ones = None

-- a number has one to three decimal digits
unfoldable pub number : (word : List ℕ) → Option ℕ
number [] = None
number (ones ∷ []) = digit ones
number (tens ∷ ones ∷ []) = and_digit (digit tens) (digit ones)
number (hundreds ∷ tens ∷ ones ∷ []) = and_digit (and_digit (digit hundreds) (digit tens)) (digit ones)
number (a ∷ b ∷ c ∷ d ∷ word) = None

-- a row of 0 to 24 and a column of 0 to 131
unfoldable pub cell : (row column : ℕ) → (columns132 : Bool) → Option Asked
cell row column columns132 =
    cond (leb row 24 && leb column 131) (Some (record { row = row; column = column; columns132 = columns132 })) None
