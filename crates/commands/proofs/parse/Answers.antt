use mathlib.Core.Path.{refl, sym, ◌∙◌}
use native.Mathlib.Omega.{arith}
use Rattle.commands.specs.Texts.{texts}
use Rattle.commands.proofs.Tables.{form_found, form_passed, forms_end}
use Rattle.commands.proofs.parse.Goals as goal

pub returns-then-is_some : goal.returns-then-is_some
returns-then-is_some c =
    form_found c.args.forms.now (texts c.args.names.now) c.args.line.now _ (omega arith) refl
    c.fitted-fit.ensures (sym c.is_some.ensures ∙ c.if-is_some.true)
    ∙ sym c.loop-form.invariant

pub loop-form-preserved : goal.loop-form-preserved
loop-form-preserved c =
    c.loop-form.invariant
    ∙ form_passed c.args.forms.now (texts c.args.names.now) c.args.line.now _ (omega arith) refl
    c.fitted-fit.ensures (sym c.is_some.ensures ∙ c.if-is_some.false)

pub returns : goal.returns
returns c =
    forms_end c.args.forms.now (texts c.args.names.now) c.args.line.now c.loop-form.form (omega arith)
    ∙ sym c.loop-form.invariant
