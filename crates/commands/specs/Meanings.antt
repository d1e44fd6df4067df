-- What a word of a line is to the form's word at the same place.
use Rattle.std.specs.Prelude.{ℕ, ◌+◌, ◌-◌, ◌*◌, List, [], ◌∷◌, Bool, Option, Some, None, if◌then◌else◌, ◌&&◌, length, get_or, nat_eq, nat_lt, nat_le}
use Rattle.std.specs.List.{position}
use Rattle.std.specs.Option.{option_map}
use Rattle.std.specs.Str.{bytes_eq}
use Rattle.commands.specs.Words.{first_word}
use Rattle.commands.specs.declared.meanings.Meaning.{Meaning}
use Rattle.commands.specs.declared.meanings.Meaning.TheVariants.{Plain, Number}

abbrev pub among : (low high byte : ℕ) → Bool
among low high byte = nat_le low byte && nat_le byte high

-- the value of a digit, 0 to 9, A to F or a to f; any other byte has the value 16, which is a digit of no base
unfoldable pub digit : (byte : ℕ) → ℕ
digit byte =
    if among 0x30 0x39 byte then byte - 0x30
    else if among 0x41 0x46 byte then byte - 0x41 + 10
    else if among 0x61 0x66 byte then byte - 0x61 + 10
    else 16

-- the first number of more than 32 bits
abbrev pub too_large : ℕ
too_large = 0x100000000

-- a value and the digits after it: each is a digit of the base, and the number stays within 32 bits
unfoldable pub number_from : (base value : ℕ) → (word : List ℕ) → Option ℕ
number_from base value [] = Some value
number_from base value (byte ∷ word) =
    if nat_lt (digit byte) base && nat_lt (value * base + digit byte) too_large
    then number_from base (value * base + digit byte) word
    else None

-- a number of no more digits than the form's word has letters; a word has at least one
abbrev pub number : (base : ℕ) → (form word : List ℕ) → Option ℕ
number base form word = if nat_le (length word) (length form) then number_from base 0 word else None

-- the number of the first name whose first word it is
abbrev pub named : (names : List (List ℕ)) → (word : List ℕ) → Option ℕ
named names word = position (λ name. bytes_eq (first_word name) word) names

-- a form's word that begins with H is a hexadecimal number, with D a decimal one, with N a name's number;
-- any other is itself
abbrev pub meaning : (names : List (List ℕ)) → (form word : List ℕ) → Option Meaning
meaning names form word =
    if nat_eq (get_or form 0 0) 0x48 then option_map Number (number 16 form word)
    else if nat_eq (get_or form 0 0) 0x44 then option_map Number (number 10 form word)
    else if nat_eq (get_or form 0 0) 0x4E then option_map Number (named names word)
    else if bytes_eq form word then Some Plain
    else None
