-- Which form a line fits, and the numbers in it.
use Rattle.std.specs.Prelude.{ℕ, ◌+◌, List, [], ◌∷◌, Bool, Option, Some, None, ◌&&◌, length, get_or, nat_lt}
use Rattle.std.specs.Str.{bytes_eq}
use Rattle.commands.specs.Words.{words, first_word}
use Rattle.commands.specs.Texts.{text}
use Rattle.commands.specs.Meanings.{meaning}
use Rattle.commands.specs.declared.meanings.Meaning.{Meaning}
use Rattle.commands.specs.declared.meanings.Meaning.TheVariants.{Plain, Number}
use Rattle.commands.specs.declared.Command.{Command}

-- a form with no numbers
abbrev pub bare : (form : ℕ) → Command
bare form = record { form = form; numbers = 0 ∷ 0 ∷ 0 ∷ 0 ∷ [] }

-- a number before the others, of which the first three are kept
abbrev pub before : (n : ℕ) → Command → Command
before n c = record { form = c.form; numbers = n ∷ get_or c.numbers 0 0 ∷ get_or c.numbers 1 0 ∷ get_or c.numbers 2 0 ∷ [] }

-- what a word is, and then the words after it
unfoldable pub joined : Option Meaning → Option Command → Option Command
joined None rest = None
joined (Some Plain) rest = rest
joined (Some (Number n)) (Some command) = Some (before n command)
joined (Some (Number n)) None = None

-- a line fits a form of as many words, if each of its words fits the form's word at the same place
unfoldable pub fitted : (names : List (List ℕ)) → (form : ℕ) → (wanted typed : List (List ℕ)) → Option Command
fitted names form [] [] = Some (bare form)
fitted names form [] (word ∷ typed) = None
fitted names form (want ∷ wanted) [] = None
fitted names form (want ∷ wanted) (word ∷ typed) = joined (meaning names want word) (fitted names form wanted typed)

-- what fits, or else what comes after it
abbrev pub chosen : {A : Type 0} → Option A → (otherwise : Option A) → Option A
chosen (Some command) otherwise = Some command
chosen None otherwise = otherwise

-- the first form that fits, of those from the number `form` on
unfoldable pub fitting_from : (forms names : List (List ℕ)) → (line : List ℕ) → (form : ℕ) → Option Command
fitting_from [] names line form = None
fitting_from (text ∷ forms) names line form =
    chosen (fitted names form (words text) (words line)) (fitting_from forms names line (form + 1))

-- the first form that the line fits, with its numbers
abbrev pub fitting : (forms names : List (List ℕ)) → (line : List ℕ) → Option Command
fitting forms names line = fitting_from forms names line 0

-- a command as it is told in a form's number: where no form fits, how many forms there are
abbrev pub told : (count : ℕ) → Option Command → Command
told count (Some command) = command
told count None = bare count

unfoldable pub command : (forms names : List (List ℕ)) → (line : List ℕ) → Command
command forms names line = told (length forms) (fitting forms names line)

-- whether a line has a first word, and it is the form's
abbrev pub is_meant : (forms : List (List ℕ)) → (form : ℕ) → (line : List ℕ) → Bool
is_meant forms form line =
    nat_lt 0 (length (first_word line)) && bytes_eq (first_word (text forms form)) (first_word line)
