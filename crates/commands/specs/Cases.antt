-- Worked cases: what lines are, with six forms and two names.
use Rattle.std.specs.Prelude.{ℕ, ◌≡◌, List, [], ◌∷◌, map, Bool, true, false, Option, Some, None, if◌then◌else◌, length, nat_lt}
use Prim.Native.String.{String}
use Rattle.ascii.specs.Ascii.{ascii}
use Rattle.commands.specs.Commands.{command, fitting, is_meant}
use Rattle.commands.specs.declared.Command.{Command}

unfoldable pub form_table : List (List ℕ)
form_table =
    ascii "store HHHHHHHH HH"
    ∷ ascii "z80 read HHHH"
    ∷ ascii "lend NAME DDDDD"
    ∷ ascii "fill HH HH"
    ∷ ascii "fill DDD DDD"
    ∷ ascii "five D D D D DDDDDDDDDD"
    ∷ []

unfoldable pub name_table : List (List ℕ)
name_table = ascii "screen" ∷ ascii "shadow" ∷ []

-- a line, the form that it fits, and its first numbers
pub record Case : Type 0 where
  pub line : List ℕ
  pub form : ℕ
  pub first : ℕ
  pub second : ℕ
  pub third : ℕ
  pub fourth : ℕ

unfoldable pub fits : String → (form first second : ℕ) → Case
fits line form first second =
    record { line = ascii line; form = form; first = first; second = second; third = 0; fourth = 0 }

-- where no form fits, the number of the form is how many there are
unfoldable pub fits_none : String → Case
fits_none line = fits line 6 0 0

unfoldable pub cases : List Case
cases =
    fits "store EE002 01" 0 0xEE002 0x01
    ∷ fits "store ee002 1" 0 0xEE002 0x01
    ∷ fits "store FFFFFFFF ff" 0 0xFFFFFFFF 0xFF
    ∷ fits_none "store 0FFFFFFFF FF"
    ∷ fits_none "store EE002 001"
    ∷ fits_none "store EE002"
    ∷ fits_none "store EE002 01 02"
    ∷ fits_none "store EG002 01"
    ∷ fits_none "Store EE002 01"
    ∷ fits_none "fetch EE002"
    ∷ fits_none ""
    ∷ fits_none " \t\r"
    ∷ fits "\t z80\tread   0800 \r" 1 0x0800 0
    ∷ fits "lend screen 4096" 2 0 4096
    ∷ fits "lend shadow 6144" 2 1 6144
    ∷ fits_none "lend shado 6144"
    ∷ fits_none "lend shadow 61A4"
    ∷ fits "fill 10 20" 3 0x10 0x20
    ∷ fits "fill 10 200" 4 10 200
    ∷ record { line = ascii "five 1 2 3 4 4294967295"; form = 5; first = 1; second = 2; third = 3; fourth = 4 }
    ∷ fits_none "five 1 2 3 4 4294967296"
    ∷ []

unfoldable pub answer : Case → Command
answer c = record { form = c.form; numbers = c.first ∷ c.second ∷ c.third ∷ c.fourth ∷ [] }

abbrev pub CasesHold : Type 0
CasesHold = map (λ (c : Case). command form_table name_table c.line) cases ≡ map answer cases

-- the command that a line gives, if it fits a form
unfoldable pub given : Case → Option Command
given c = if nat_lt c.form (length form_table) then Some (answer c) else None

abbrev pub GivenHold : Type 0
GivenHold = map (λ (c : Case). fitting form_table name_table c.line) cases ≡ map given cases

-- a line's first word tells which form is meant, though the line does not fit it
unfoldable pub meant : List Bool
meant =
    is_meant form_table 0 (ascii "store")
    ∷ is_meant form_table 0 (ascii "z80 read")
    ∷ is_meant form_table 1 (ascii " z80 write 12")
    ∷ is_meant form_table 6 (ascii "store")
    ∷ is_meant form_table 0 (ascii " ")
    ∷ []

abbrev pub MeantHold : Type 0
MeantHold = meant ≡ true ∷ false ∷ true ∷ false ∷ false ∷ []
