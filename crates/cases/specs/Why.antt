-- 02, ticket 6: why a cell says what it says, in the ticket's words; and what the program `why` prints of it, told by
-- the whole text.
use Rattle.std.specs.Prelude.{ℕ, List, [], ◌∷◌, ◌++◌, take, replicate, set, Option, Some, None, Result, Ok, Err}
use Rattle.lent.specs.Lengths.{attribute_bytes}
use Rattle.machine.specs.Power.{power_up}
use Rattle.machine.specs.declared.Machine.{Machine}
use Rattle.explaining.specs.Call.{explain}
use Rattle.explaining.specs.declared.Why.{Why}
use Rattle.explaining.specs.declared.Why.TheVariants.{Cell as ACell, Fill as AFill, Past as IsPast, Dark as IsDark}
use Rattle.sentences.specs.Sentences.{text_bytes, say}
use Rattle.cases.specs.Ports.{written_all}
use Rattle.cases.specs.Said.{Said, Refused, Prints, Cell, Fill, Past, Dark, Link, IsRow0}

abbrev pub led_by : Option ℕ → Said
led_by None = IsRow0
led_by (Some place) = Link place

abbrev pub in_words : Result Why ℕ → List Said
in_words (Ok (ACell place kind led)) = Cell place kind ∷ led_by led ∷ []
in_words (Ok (AFill place led)) = Fill place ∷ led_by led ∷ []
in_words (Ok (IsPast led)) = Past ∷ led_by led ∷ []
in_words (Ok (IsDark tore)) = Dark tore ∷ []
in_words (Err number) = Refused number ∷ []

unfoldable pub why_at : Machine → (screen attribute : List ℕ) → (row column : ℕ) → List Said
why_at m screen attribute row column = in_words (explain m screen attribute row column)

-- every attribute byte is 03 but one, beside a link
unfoldable pub beside_link : (place kind : ℕ) → List ℕ
beside_link place kind = set (replicate attribute_bytes 3) place kind

-- a screen: AB, FF and the link to place 6, where C stands, FF and the link to place 0
unfoldable pub looped : List ℕ
looped = 0x41 ∷ 0x42 ∷ 0xFF ∷ 0x06 ∷ 0x00 ∷ 0x00 ∷ 0x43 ∷ 0xFF ∷ 0x00 ∷ 0x00 ∷ []

-- row 1 is at place 4095 and goes on at place 0
unfoldable pub over_the_end : List ℕ
over_the_end = 0xFF ∷ 0xFF ∷ 0x0F ∷ replicate 4092 0x00 ++ (0x41 ∷ [])

unfoldable pub at132 : Machine
at132 = written_all 0x04 power_up (0x10 ∷ [])

unfoldable pub said_of : Machine → (screen attribute : List ℕ) → (row column : ℕ) → List Said
said_of m screen attribute row column =
    let left = say m screen attribute row column (replicate text_bytes 0x00) in
    Prints (take left.answer.bytes left.text) ∷ []
