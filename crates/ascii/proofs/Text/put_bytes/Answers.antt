use Rattle.std.proofs.Common.{arith, ℕ}
use Rattle.std.proofs.lemmas.Slice.{take-put_mid}
use Rattle.std.proofs.lemmas.List.{length-take, take_min}
use Rattle.std.proofs.lemmas.Grind.{common_steps}
use Rattle.ascii.specs.Text.{with_words}
use Rattle.ascii.proofs.Text.put_bytes.Goals as goal

pub returns : goal.returns
unfolding with_words
returns g c = grind (arith, common_steps, take-put_mid {X = ℕ}, length-take {A = ℕ}, take_min {X = ℕ})
