-- The words of a line: the longest runs of bytes that are no blanks.
use Rattle.std.specs.Prelude.{ℕ, List, [], ◌∷◌, ◌++◌, Bool, false, cond, not, ◌||◌, length, get_or, eqb, ltb}

-- a space, a tab, a carriage return
abbrev pub blank : (byte : ℕ) → Bool
blank byte = eqb byte 0x20 || eqb byte 0x09 || eqb byte 0x0D

-- the bytes before the first blank
unfoldable pub run : (line : List ℕ) → List ℕ
run [] = []
run (byte ∷ line) = cond (blank byte) [] (byte ∷ run line)

-- a word begins at each byte that is no blank and does not stand inside a word
unfoldable pub words_from : (inside : Bool) → (line : List ℕ) → List (List ℕ)
words_from inside [] = []
words_from inside (byte ∷ line) =
    cond (inside || blank byte) [] (run (byte ∷ line) ∷ []) ++ words_from (not (blank byte)) line

abbrev pub words : (line : List ℕ) → List (List ℕ)
words line = words_from false line

-- the first word, or no bytes where there is none
abbrev pub first_word : (line : List ℕ) → List ℕ
first_word line = get_or (words line) 0 []

-- whether a line has words; one that has none is passed over
abbrev pub has_words : (line : List ℕ) → Bool
has_words line = ltb 0 (length (words line))
