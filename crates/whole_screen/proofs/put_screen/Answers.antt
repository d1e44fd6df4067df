use mathlib.Core.Path.{sym, ◌∙◌}
use native.Mathlib.Omega.{arith}
use borrow.Author.Rules.{rules}
use Rattle.whole_screen.specs.Call.{kinds_in}
use Rattle.whole_screen.proofs.FirstRun.{rest_at_0}
use Rattle.whole_screen.proofs.Seeking.{rest_without, run_found}
use Rattle.whole_screen.proofs.ByNumber.{screen_at_rest, screen_scrolled}
use Rattle.whole_screen.proofs.put_screen.Goals as goal

pub returns-then-latch-eq0 : goal.returns-then-latch-eq0
returns-then-latch-eq0 c =
    c.put_lines.ensures
    ∙ screen_at_rest (kinds_in c.args.picture.now) c.args.latch _ (rw c.if-latch-eq0.true (rest_at_0 _)) (search rules)

pub put_scrolled-requires-clause-run : goal.put_scrolled-requires-clause-run
put_scrolled-requires-clause-run c =
    let found = run_found (kinds_in c.args.picture.now) c.args.latch (sym c.in-Some.is ∙ c.first_run.ensures) (omega arith) in
    (found.some, found.among)

pub returns-in-Some : goal.returns-in-Some
returns-in-Some c =
    let kinds = kinds_in c.args.picture.now in
    let found = run_found kinds c.args.latch (sym c.in-Some.is ∙ c.first_run.ensures) (omega arith) in
    c.put_scrolled.ensures ∙ screen_scrolled kinds c.args.latch (search rules) found

pub returns-in-None : goal.returns-in-None
returns-in-None c =
    let rest = rest_without (kinds_in c.args.picture.now) c.args.latch (sym c.in-None.is ∙ c.first_run.ensures) in
    c.put_lines-in-None.ensures ∙ screen_at_rest (kinds_in c.args.picture.now) c.args.latch _ rest (search rules)
