use Rattle.std.proofs.Common.{arith}
use Rattle.std.proofs.lemmas.List.{length-take-le}
use Rattle.std.proofs.lemmas.Grind.{common_steps}
use Rattle.ascii.proofs.Laws.{copied}
use Rattle.ascii.proofs.Text.copy_to.Goals as goal

pub returns-clause-text : goal.returns-clause-text
returns-clause-text g c = grind (arith, common_steps, copied, length-take-le c.self.inside.end c.self.inside.bytes)
