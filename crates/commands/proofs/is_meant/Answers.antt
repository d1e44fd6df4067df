use mathlib.Core.Path.{◌∙◌}
use Rattle.std.proofs.lemmas.Option.{MatchOption-at_some}
use Rattle.commands.specs.Texts.{texts, text}
use Rattle.commands.proofs.Splits.{first_is}
use Rattle.commands.proofs.is_meant.Goals as goal

pub returns-in-Some-Some : goal.returns-in-Some-Some
returns-in-Some-Some c =
    c.eq.ensures
    ∙ first_is (text (texts c.args.forms.now) c.args.form) c.args.line.now c.form_text.ensures
    (MatchOption-at_some _ _ _ c.in-Some-Some.is-0 c.split_word-wanted.ensures)
    (MatchOption-at_some _ _ _ c.in-Some-Some.is-1 c.split_word-typed.ensures)
