-- Laws about text that is put after text.
use Rattle.std.proofs.Common.{ℕ, ◌≡◌, ◌-◌, List, [], ◌++◌, ◌≤◌, length, drop, sym, arith}
use native.Mathlib.Nat.{zero-add}
use Rattle.std.proofs.lemmas.List.{take_all, append-nil, places, same_lists}
use Rattle.std.proofs.lemmas.List.Edits.{sets, sets-eq}
use Rattle.ascii.specs.Text.{with_words}

-- no words
pub with_none : (room : ℕ) (text : List ℕ) → with_words room text [] ≡ text
unfolding with_words
with_none room text = rw (take_all {A = ℕ} (room - length text) [] (omega arith)) (append-nil text)

-- words after words
pub with_both :
    (room : ℕ) (text a b : List ℕ) → with_words room (with_words room text a) b ≡ with_words room text (a ++ b)
unfolding with_words
with_both room text a b = same_lists _ _ (grind (arith, places)) (λ k d h. grind (arith, places))

-- words that fit
pub with_all : (room : ℕ) (words : List ℕ) → length words ≤ room → with_words room [] words ≡ words
unfolding with_words
with_all room words fits = take_all (room - 0) words (omega arith)

-- a text that is copied to the front of a buffer
pub copied : (buffer text : List ℕ) → length text ≤ length buffer → text ++ drop (length text) buffer ≡ sets buffer 0 text
copied buffer text fits = rw (zero-add (length text)) at (sym (sets-eq text buffer 0 (omega arith)))
