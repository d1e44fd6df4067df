use Rattle.std.proofs.Common.{sym, ◌∙◌}
use Rattle.explaining.proofs.Laws.{why_in_row, why_dark}
use Rattle.explaining.proofs.explain_at.Goals as goal

pub returns-in-Ok : goal.returns-in-Ok
returns-in-Ok c = c.explain_in_row.ensures ∙ why_in_row _ _ _ _ (sym c.in-Ok.ensures)

pub returns-in-Err : goal.returns-in-Err
returns-in-Err c = why_dark _ _ _ _ (sym c.in-Err.ensures)
