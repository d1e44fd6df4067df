-- A table of texts, by number from 0 on.
use Rattle.std.specs.Prelude.{ℕ, List, [], map, get_or}
use denote.Ref.{Bor}

-- the texts that a table holds
abbrev pub texts : (table : List (Bor (List ℕ))) → List (List ℕ)
texts table = map (λ one. one.now) table

-- a text, or no text where the table has none of that number
abbrev pub text : (table : List (List ℕ)) → (number : ℕ) → List ℕ
text table number = get_or table number []
