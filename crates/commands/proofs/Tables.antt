-- Laws about a search from text to text of a table.
use Prim.Native.Nat.{ℕ, ◌+◌, ◌≤◌, ◌<◌}
use mathlib.Core.Path.{◌≡◌, refl, ap}
use mathlib.Core.List.{List, [], ◌∷◌}
use mathlib.Core.Bool.{Bool, true, false, cond, not}
use denote.Ref.{Bor}
use lib.ListN.{length, drop, get_or, get_or-map, drop_of_length-le}
use Rattle.std.proofs.Common.{add-one}
use lib.Seq.{drop-cons}
use Rattle.std.proofs.lemmas.List.{length-map}
use Rattle.std.specs.List.{position_or_len}
use Rattle.std.specs.Prelude.{Option, Some, None}
use Rattle.std.specs.Option.{is_some}
use Rattle.commands.specs.declared.Command.{Command}
use Rattle.commands.specs.Words.{words}
use Rattle.commands.specs.Texts.{texts}
use Rattle.commands.specs.Commands.{chosen, fitted, fitting_from}

-- a search among the texts is one among what holds them
pub position_of_text :
    (test : List ℕ → Bool) (table : List (Bor (List ℕ)))
    → position_or_len (λ one. test one.now) table ≡ position_or_len test (texts table)
position_of_text test [] = refl
position_of_text test (one ∷ table) = ap (λ n. cond (not (test one.now)) (1 + n) 0) (position_of_text test table)

-- the texts from one on that the table has
pub text_at :
    (table : List (Bor (List ℕ))) (at : ℕ) (other : Bor (List ℕ)) → at < length table
    → drop at (texts table) ≡ (get_or table at other).now ∷ drop (at + 1) (texts table)
text_at table at other under =
    rw (add-one, drop-cons (texts table) at other.now (rw (length-map table (λ one. one.now)) under), get_or-map (λ one. one.now) table at other) refl

some_is : {fit : Option Command} → is_some fit ≡ false → fit ≡ None
some_is {fit = None} e = refl
some_is {fit = Some command} e = cc

chosen_is : {fit : Option Command} (otherwise : Option Command) → is_some fit ≡ true → fit ≡ chosen fit otherwise
chosen_is {fit = None} otherwise e = cc
chosen_is {fit = Some command} otherwise e = refl

module _ (forms : List (Bor (List ℕ))) (names : List (List ℕ)) (line : List ℕ) {text : List ℕ} {form : ℕ}
    (other : Bor (List ℕ)) {fit : Option Command} (under : form < length forms) (is : text ≡ (get_or forms form other).now)
    (compared : fit ≡ fitted names form (words text) (words line)) where
  pub form_found : is_some fit ≡ true → fit ≡ fitting_from (drop form (texts forms)) names line form
  unfolding fitting_from
  form_found some =
      rw (text_at forms form other under, ← is, ← compared)
      (chosen_is (fitting_from (drop (form + 1) (texts forms)) names line (form + 1)) some)

  pub form_passed :
      is_some fit ≡ false
      → fitting_from (drop form (texts forms)) names line form
      ≡ fitting_from (drop (form + 1) (texts forms)) names line (form + 1)
  unfolding fitting_from
  form_passed none = rw (text_at forms form other under, ← is, ← compared, some_is none) refl

pub forms_end :
    (forms : List (Bor (List ℕ))) (names : List (List ℕ)) (line : List ℕ) (form : ℕ) → length forms ≤ form
    → None ≡ fitting_from (drop form (texts forms)) names line form
unfolding fitting_from
forms_end forms names line form past =
    let all : length (texts forms) ≤ form = rw (length-map forms (λ one. one.now)) past in
    rw (drop_of_length-le (texts forms) all) refl
