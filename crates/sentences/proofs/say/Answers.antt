use Rattle.std.proofs.Common.{◌≡◌, ◌<◌, length, arith}
use Rattle.std.proofs.lemmas.Grind.{common_steps}
use Rattle.lent.specs.Lengths.{screen_bytes, attribute_bytes}
use Rattle.chain.specs.Chain.{rows}
use Rattle.records.specs.Record.{record_pairs}
use Rattle.ascii.proofs.Laws.{with_all}
use Rattle.sentences.proofs.Laws.{last_on_screen, all_said}
use Rattle.sentences.proofs.Lengths.{both_fit}
use Rattle.sentences.proofs.say.Goals as goal

pub returns-clause-text_after : goal.returns-clause-text_after
returns-clause-text_after c =
    let long : length c.args.screen.now ≡ screen_bytes = grind (arith, common_steps) in
    let longer : length c.args.attribute.now ≡ attribute_bytes = grind (arith, common_steps) in
    let on_row : c.args.row < rows = grind (arith, common_steps) in
    let in_column : c.args.column < record_pairs = grind (arith, common_steps) in
    let said = all_said c.args.machine c.args.screen.now c.args.attribute.now c.args.row c.args.column c.args.text.now long longer on_row in_column in
    grind (arith, common_steps, said, with_all, both_fit, last_on_screen)
