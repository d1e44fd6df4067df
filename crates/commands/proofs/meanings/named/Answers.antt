use Rattle.std.proofs.Common.{rules}
use borrow.Author.Tests.{tests}
use Rattle.std.proofs.lemmas.Iterator.{YieldsList-from_slice}
use Rattle.std.proofs.lemmas.Iterator.Search.{position_from_yields_List}
use Rattle.std.proofs.lemmas.List.{length-map}
use Rattle.std.specs.Str.{bytes_eq}
use Rattle.commands.specs.Words.{first_word}
use Rattle.commands.proofs.Tables.{position_of_text}
use Rattle.commands.proofs.meanings.named.Goals as goal

pub returns : goal.returns
returns c =
    let found = position_from_yields_List (λ name. bytes_eq (first_word name.now) c.args.word.now) _ _ c.position.result c.position.ensures.ran (YieldsList-from_slice c.args.names.now cc) (λ x b q k. search (rules, tests)) in
    rw (← position_of_text (λ name. bytes_eq (first_word name) c.args.word.now) c.args.names.now, length-map c.args.names.now (λ one. one.now)) found
