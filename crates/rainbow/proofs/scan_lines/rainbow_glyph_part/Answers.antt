use borrow.Author.Rules.{rules}
use Rattle.std.proofs.Common.{Ok, Err}
use Rattle.rainbow.proofs.Part.{placed}
use Rattle.rainbow.proofs.scan_lines.rainbow_glyph_part.Goals as goal

pub returns-in-Ok : goal.returns-in-Ok
returns-in-Ok c = placed _ _ _ (Ok c.in-Ok.part) (search rules) c.in-Ok.ensures

pub returns-in-Err : goal.returns-in-Err
returns-in-Err c = rw c.number.ensures (placed _ _ _ (Err c.in-Err.refusal) (search rules) c.in-Err.ensures)
