-- Laws about the numbers of a line, of which those in the words that are passed are known.
use Prim.Native.Nat.{ℕ, zero, suc, ◌+◌, ◌≤◌, ◌<◌}
use mathlib.Core.Path.{◌≡◌, refl, sym, ap, ◌∙◌}
use mathlib.Core.List.{List, [], ◌∷◌, ◌++◌}
use mathlib.Core.Bool.{true, false}
use native.Mathlib.Omega.{arith}
use lib.ListN.{length, take, set, get_or}
use lib.Dec.{ltb}
use borrow.Author.Tests.{lt-ltb}
use Rattle.std.proofs.lemmas.List.{take_all, take_more_set, length-set, get_or-set_other}
use Rattle.std.specs.Prelude.{Option, Some, None}
use Rattle.commands.specs.declared.Command.{Command}
use Rattle.commands.specs.declared.meanings.Meaning.{Meaning}
use Rattle.commands.specs.declared.meanings.Meaning.TheVariants.{Plain, Number}
use Rattle.commands.specs.Meanings.{meaning}
use Rattle.commands.specs.Commands.{bare, joined, fitted}

-- numbers before those of the words to come
abbrev pub with_numbers : (numbers : List ℕ) → Option Command → Option Command
with_numbers [] rest = rest
with_numbers (n ∷ numbers) rest = joined (Some (Number n)) (with_numbers numbers rest)

-- a form and a line, the words of both that are left, and the numbers found in those that are passed
pub record Numbered (names : List (List ℕ)) (form : ℕ) (wanted typed wanted_left typed_left : List (List ℕ)) (numbers : List ℕ) (found : ℕ) : Type 0 where
  pub left : fitted names form wanted typed ≡ with_numbers (take found numbers) (fitted names form wanted_left typed_left)
  pub four : length numbers ≡ 4
  pub within : found ≤ 4
  pub others : (k : ℕ) → found ≤ k → get_or numbers k 0 ≡ 0

no_command : (numbers : List ℕ) → with_numbers numbers None ≡ None
unfolding joined
no_command [] = refl
no_command (n ∷ numbers) = rw (no_command numbers) refl

one_more :
    (numbers : List ℕ) (n : ℕ) (rest : Option Command)
    → with_numbers (numbers ++ n ∷ []) rest ≡ with_numbers numbers (joined (Some (Number n)) rest)
one_more [] n rest = refl
one_more (m ∷ numbers) n rest = ap (joined (Some (Number m))) (one_more numbers n rest)

-- after four numbers a fifth is not kept
fifth :
    (numbers : List ℕ) (n : ℕ) (rest : Option Command) → length numbers ≡ 4
    → with_numbers numbers (joined (Some (Number n)) rest) ≡ with_numbers numbers rest
unfolding joined
fifth [] n rest four = absurd (omega arith)
fifth (a ∷ []) n rest four = absurd (omega arith)
fifth (a ∷ b ∷ []) n rest four = absurd (omega arith)
fifth (a ∷ b ∷ c ∷ []) n rest four = absurd (omega arith)
fifth (a ∷ b ∷ c ∷ d ∷ []) n None four = refl
fifth (a ∷ b ∷ c ∷ d ∷ []) n (Some command) four = refl
fifth (a ∷ b ∷ c ∷ d ∷ e ∷ more) n rest four = absurd (omega arith)

-- numbers that are 0 from one on are those found before it, and then a bare form's
found_are :
    (a b c d form found : ℕ) → found ≤ 4 → ((k : ℕ) → found ≤ k → get_or (a ∷ b ∷ c ∷ d ∷ []) k 0 ≡ 0)
    → Some (record { form = form; numbers = a ∷ b ∷ c ∷ d ∷ [] })
    ≡ with_numbers (take found (a ∷ b ∷ c ∷ d ∷ [])) (Some (bare form))
unfolding joined
found_are a b c d form zero within others = cc (others 0 (omega arith), others 1 (omega arith), others 2 (omega arith), others 3 (omega arith))
found_are a b c d form (suc zero) within others = cc (others 1 (omega arith), others 2 (omega arith), others 3 (omega arith))
found_are a b c d form (suc (suc zero)) within others = cc (others 2 (omega arith), others 3 (omega arith))
found_are a b c d form (suc (suc (suc zero))) within others = cc (others 3 (omega arith))
found_are a b c d form (suc (suc (suc (suc zero)))) within others = refl
found_are a b c d form (suc (suc (suc (suc (suc found))))) within others = absurd (omega arith)

all_found :
    (numbers : List ℕ) (form found : ℕ) → length numbers ≡ 4 → found ≤ 4 → ((k : ℕ) → found ≤ k → get_or numbers k 0 ≡ 0)
    → Some (record { form = form; numbers = numbers }) ≡ with_numbers (take found numbers) (Some (bare form))
all_found [] form found four within others = absurd (omega arith)
all_found (a ∷ []) form found four within others = absurd (omega arith)
all_found (a ∷ b ∷ []) form found four within others = absurd (omega arith)
all_found (a ∷ b ∷ c ∷ []) form found four within others = absurd (omega arith)
all_found (a ∷ b ∷ c ∷ d ∷ []) form found four within others = found_are a b c d form found within others
all_found (a ∷ b ∷ c ∷ d ∷ e ∷ more) form found four within others = absurd (omega arith)

module _ {names : List (List ℕ)} {form found : ℕ} {wanted typed wanted_left typed_left : List (List ℕ)} {numbers : List ℕ}
    (w : Numbered names form wanted typed wanted_left typed_left numbers found) where
  module _ {want : List ℕ} {wants : List (List ℕ)} (form_is : wanted_left ≡ want ∷ wants) where
    -- a line of fewer words than the form
    pub line_ends : typed_left ≡ [] → None ≡ fitted names form wanted typed
    unfolding fitted
    line_ends ends = sym (w.left ∙ rw (form_is, ends) (no_command (take found numbers)))

    module _ {word : List ℕ} {words : List (List ℕ)} (line_is : typed_left ≡ word ∷ words)
        {means : Option Meaning} (is : means ≡ meaning names want word) where
      at_word :
          fitted names form wanted typed ≡ with_numbers (take found numbers) (joined means (fitted names form wants words))
      unfolding fitted
      at_word = w.left ∙ rw (form_is, line_is, is) refl

      -- a word that is not what the form has there
      pub differs : means ≡ None → None ≡ fitted names form wanted typed
      unfolding joined
      differs none = sym (at_word ∙ rw none (no_command (take found numbers)))

      module _ {one : Meaning} (some : means ≡ Some one) where
        pub plain : one ≡ Plain → Numbered names form wanted typed wants words numbers found
        unfolding joined
        plain same = record { left = at_word ∙ rw (some, same) refl; four = w.four; within = w.within; others = w.others }

        module _ {n : ℕ} (same : one ≡ Number n) where
          pub kept : found < 4 → Numbered names form wanted typed wants words (set numbers found n) (found + 1)
          kept room =
              let under : found < length numbers = omega (arith, w.four) in
              record {
                left = at_word ∙ rw (some, same, take_more_set numbers found n under) (sym (one_more (take found numbers) n (fitted names form wants words)));
                four = length-set numbers found n ∙ w.four;
                within = omega arith;
                others = λ k past. get_or-set_other numbers found k n 0 (λ same. omega arith) ∙ w.others k (omega arith);
              }

          pub not_kept : 4 ≤ found → Numbered names form wanted typed wants words numbers found
          not_kept full =
              let all : take found numbers ≡ numbers = take_all found numbers (omega (arith, w.four)) in
              record {
                left = at_word ∙ rw (some, same, all) (fifth numbers n (fitted names form wants words) w.four);
                four = w.four;
                within = w.within;
                others = w.others;
              }

  module _ (form_ends : wanted_left ≡ []) where
    -- a line of more words than the form
    pub line_goes_on : ltb 0 (length typed_left) ≡ true → None ≡ fitted names form wanted typed
    unfolding fitted
    line_goes_on more = go typed_left refl
      where
        go : (ws : List (List ℕ)) → typed_left ≡ ws → None ≡ fitted names form wanted typed
        go [] e = let none : false ≡ true = rw e at more in cc
        go (word ∷ others) e = sym (w.left ∙ rw (form_ends, e) (no_command (take found numbers)))

    pub both_end : ltb 0 (length typed_left) ≡ false → Some (record { form = form; numbers = numbers }) ≡ fitted names form wanted typed
    unfolding fitted
    both_end none = go typed_left refl
      where
        go : (ws : List (List ℕ)) → typed_left ≡ ws → Some (record { form = form; numbers = numbers }) ≡ fitted names form wanted typed
        go [] e = all_found numbers form found w.four w.within w.others ∙ sym (w.left ∙ rw (form_ends, e) refl)
        go (word ∷ others) e =
            let some : true ≡ false = sym (lt-ltb 0 (suc (length others)) (omega arith)) ∙ rw e at none in
            cc
