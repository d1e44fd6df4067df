use lib.ListN.{drop}
use mathlib.Core.Path.{◌≡◌}
use Rattle.commands.specs.Texts.{texts}
use Rattle.commands.specs.Commands.{fitting, fitting_from}
use Rattle.commands.proofs.parse.Given as goal

abbrev pub invariant-loop-form : goal.invariant-loop-form
invariant-loop-form l = fitting (texts l.forms) (texts l.names) l.line ≡ fitting_from (drop l.form (texts l.forms)) (texts l.names) l.line l.form
