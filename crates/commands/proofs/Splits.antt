-- Laws about words: what a line is before and after its first one.
use Prim.Native.Nat.{ℕ, suc, ◌+◌, ◌-◌, ◌≤◌, ◌<◌}
use mathlib.Core.Path.{◌≡◌, refl, sym, ap, ◌∙◌}
use mathlib.Core.List.{List, [], ◌∷◌}
use mathlib.Core.Bool.{Bool, true, false, cond, not, ◌&&◌}
use native.Mathlib.Omega.{arith}
use lib.ListN.{length, take, drop}
use lib.Dec.{ltb}
use borrow.Author.Tests.{ltb-true, lt-ltb}
use Rattle.std.proofs.lemmas.Bool.{ltb-false}
use Rattle.std.proofs.lemmas.List.Sums.{prefix_len-le-length}
use Rattle.std.proofs.lemmas.Slice.{between_to_end}
use Rattle.std.specs.Str.{bytes_eq}
use Rattle.std.specs.List.{position_or_len}
use Rattle.std.specs.Prelude.{Option, Some, None}
use Rattle.std.specs.Option.{unwrap_or}
use Rattle.commands.specs.Words.{blank, run, words_from, words, first_word}

-- where a line's first word begins, and where a word ends
abbrev pub start_of : (line : List ℕ) → ℕ
start_of line = position_or_len (λ byte. not (blank byte)) line

abbrev pub end_of : (line : List ℕ) → ℕ
end_of line = position_or_len blank line

step : (n : ℕ) → 1 + n ≡ suc n
step n = omega arith

run_is : (line : List ℕ) → take (end_of line) line ≡ run line
unfolding run
run_is [] = refl
run_is (byte ∷ line) = go (blank byte) refl (run_is line)
  where
    go :
        (b : Bool) → blank byte ≡ b → take (end_of line) line ≡ run line
        → take (end_of (byte ∷ line)) (byte ∷ line) ≡ run (byte ∷ line)
    go true e more = rw e refl
    go false e more = rw (e, step (end_of line), more) refl

-- inside a word, the words to come are those after it
inside : (line : List ℕ) → words (drop (end_of line) line) ≡ words_from true line
unfolding run words_from
inside [] = refl
inside (byte ∷ line) = go (blank byte) refl (inside line)
  where
    go :
        (b : Bool) → blank byte ≡ b → words (drop (end_of line) line) ≡ words_from true line
        → words (drop (end_of (byte ∷ line)) (byte ∷ line)) ≡ words_from true (byte ∷ line)
    go true e more = rw e (rw e refl)
    go false e more = rw (e, step (end_of line)) more

no_words : (line : List ℕ) → length line ≤ start_of line → words line ≡ []
unfolding words_from
no_words [] none = refl
no_words (byte ∷ line) none = go (blank byte) refl (no_words line)
  where
    go :
        (b : Bool) → blank byte ≡ b → (length line ≤ start_of line → words line ≡ []) → words (byte ∷ line) ≡ []
    go true e more = rw e (more (omega (arith, rw e at none)))
    go false e more = absurd (omega (arith, rw e at none))

some_words :
    (line : List ℕ) → start_of line < length line
    → words line ≡ run (drop (start_of line) line) ∷ words (drop (end_of (drop (start_of line) line)) (drop (start_of line) line))
unfolding words_from
some_words [] some = absurd (omega arith)
some_words (byte ∷ line) some = go (blank byte) refl (some_words line)
  where
    go :
        (b : Bool) → blank byte ≡ b
        → (start_of line < length line
        → words line ≡ run (drop (start_of line) line) ∷ words (drop (end_of (drop (start_of line) line)) (drop (start_of line) line)))
        → words (byte ∷ line)
        ≡ run (drop (start_of (byte ∷ line)) (byte ∷ line))
        ∷ words (drop (end_of (drop (start_of (byte ∷ line)) (byte ∷ line))) (drop (start_of (byte ∷ line)) (byte ∷ line)))
    go true e more = rw (e, step (start_of line)) (more (omega (arith, rw e at some)))
    go false e more = rw e (rw (e, step (end_of line)) (ap (λ ws. run (byte ∷ line) ∷ ws) (sym (inside line))))

-- a first word has bytes
pub word_has_bytes : (line : List ℕ) {word : List ℕ} {others : List (List ℕ)} → words line ≡ word ∷ others → 0 < length word
unfolding run words_from
word_has_bytes [] is = cc
word_has_bytes (byte ∷ line) {word} {others} is = go (blank byte) refl (word_has_bytes line)
  where
    go :
        (b : Bool) → blank byte ≡ b → (words line ≡ word ∷ others → 0 < length word) → 0 < length word
    go true e more = more (rw e at is)
    go false e more = let first : byte ∷ run line ≡ word = cc (rw e at is) in rw (← first) (omega arith)

-- what `position` answers of the first byte that is no blank, and of the first blank after it
pub none_begins :
    (line : List ℕ) {found : Option ℕ} → found ≡ cond (ltb (start_of line) (length line)) (Some (start_of line)) None
    → found ≡ None → words line ≡ []
none_begins line is none = go (ltb (start_of line) (length line)) refl
  where
    go : (b : Bool) → ltb (start_of line) (length line) ≡ b → words line ≡ []
    go true e = let some : None ≡ Some (start_of line) = sym none ∙ rw e at is in cc
    go false e = no_words line (ltb-false _ _ e)

pub one_begins :
    (line : List ℕ) {found : Option ℕ} {start : ℕ}
    → found ≡ cond (ltb (start_of line) (length line)) (Some (start_of line)) None → found ≡ Some start
    → (start ≡ start_of line) × (start < length line)
one_begins line {start = start} is some = go (ltb (start_of line) (length line)) refl
  where
    go : (b : Bool) → ltb (start_of line) (length line) ≡ b → (start ≡ start_of line) × (start < length line)
    go true e =
        let same : start ≡ start_of line = cc (rw e at is) in
        (same, rw same (ltb-true _ _ e))
    go false e = let none : Some start ≡ None = sym some ∙ rw e at is in absurd cc

ends :
    (line : List ℕ) {found : Option ℕ} {end : ℕ}
    → found ≡ cond (ltb (end_of line) (length line)) (Some (end_of line)) None → end ≡ unwrap_or found (length line)
    → end ≡ end_of line
ends line {end = end} is at_end = go (ltb (end_of line) (length line)) refl
  where
    go : (b : Bool) → ltb (end_of line) (length line) ≡ b → end ≡ end_of line
    go true e = rw (is, e) at at_end
    go false e =
        let past : length line ≤ end_of line = ltb-false _ _ e in
        let all : end ≡ length line = rw (is, e) at at_end in
        omega (arith, prefix_len-le-length (λ byte. not (blank byte)) line)

pub split_is :
    (line : List ℕ) {start end : ℕ} {found : Option ℕ} → (start ≡ start_of line) × (start < length line)
    → let rest = take (length line - start) (drop start line) in
    found ≡ cond (ltb (end_of rest) (length rest)) (Some (end_of rest)) None → end ≡ unwrap_or found (length rest)
    → words line ≡ take end rest ∷ words (take (length rest - end) (drop end rest))
split_is line {start} {end} {found} begins is at_end =
    go (take (length line - start) (drop start line)) (between_to_end line start (length line) (omega arith)) is at_end
  where
    go :
        (rest : List ℕ) → rest ≡ drop start line
        → found ≡ cond (ltb (end_of rest) (length rest)) (Some (end_of rest)) None
        → end ≡ unwrap_or found (length rest)
        → words line ≡ take end rest ∷ words (take (length rest - end) (drop end rest))
    go rest e is at_end =
        rw (between_to_end rest end (length rest) (omega arith), ends rest is at_end, run_is rest, e, begins.0)
        (some_words line (rw begins.0 at begins.1))

-- whether the first words of a text and a line are the same, where both have one
pub first_is :
    (text line : List ℕ) {read wanted typed : List ℕ} {more others : List (List ℕ)} → read ≡ text
    → words read ≡ wanted ∷ more → words line ≡ typed ∷ others
    → bytes_eq wanted typed ≡ (ltb 0 (length (first_word line)) && bytes_eq (first_word text) (first_word line))
first_is text line is has has_too = rw (← is, has, has_too, lt-ltb 0 _ (word_has_bytes line has_too)) refl
