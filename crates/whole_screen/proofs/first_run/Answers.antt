use mathlib.Core.Path.{◌≡◌}
use mathlib.Core.Bool.{true, false, not}
use borrow.Author.Rules.{rules}
use Rattle.std.proofs.Common.{Some, None}
use Rattle.std.proofs.lemmas.Iterator.{first_from_Range}
use Rattle.whole_screen.specs.Screen.{scrolls}
use Rattle.whole_screen.specs.Call.{kinds_in}
use Rattle.whole_screen.proofs.Seeking.{Sought, no_run, the_run}
use Rattle.whole_screen.proofs.first_run.Goals as goal

pub returns-in_err-first : goal.returns-in_err-first
returns-in_err-first c =
    let kinds = kinds_in c.args.picture.now in
    let none : Sought (λ row. scrolls (kinds row)) 0 None =
    first_from_Range _ _ _ None (λ row. scrolls (kinds row) ≡ true) (λ row. scrolls (kinds row) ≡ false) c.in_err-first.ensures.ran
    (λ row q h. search rules) (λ row q h. (search rules, search rules)) in
    rw c.from_residual.ensures (no_run kinds none)

pub returns : goal.returns
returns c =
    let kinds = kinds_in c.args.picture.now in
    let first : Sought (λ row. scrolls (kinds row)) 0 (Some c.in_ok-first.first) =
    first_from_Range _ _ _ (Some c.in_ok-first.first) (λ row. scrolls (kinds row) ≡ true) (λ row. scrolls (kinds row) ≡ false) c.in_ok-first.ensures.ran
    (λ row q h. search rules) (λ row q h. (search rules, search rules)) in
    let end : Sought (λ row. not (scrolls (kinds row))) c.in_ok-first.first c.find-2.result =
    first_from_Range _ _ _ c.find-2.result (λ row. not (scrolls (kinds row)) ≡ true) (λ row. not (scrolls (kinds row)) ≡ false) c.find-2.ensures.ran
    (λ row q h. search rules) (λ row q h. (search rules, search rules)) in
    the_run kinds c.find-2.result first end c.unwrap_or-end.ensures
