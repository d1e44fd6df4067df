use Rattle.std.proofs.Common.{rules}
use Prim.Native.Nat.{◌-◌}
use lib.ListN.{length, take, drop}
use borrow.Author.Tests.{tests}
use mathlib.Core.Bool.{not}
use Rattle.std.proofs.lemmas.Iterator.{YieldsList-from_slice}
use Rattle.std.proofs.lemmas.Iterator.Search.{position_from_yields_List}
use Rattle.commands.specs.Words.{blank}
use Rattle.commands.proofs.Splits.{none_begins, one_begins, split_is}
use Rattle.commands.proofs.words.split_word.Goals as goal

pub returns-in_err-start : goal.returns-in_err-start
returns-in_err-start c =
    let found = position_from_yields_List (λ byte. not (blank byte)) _ _ c.position.result c.position.ensures.ran (YieldsList-from_slice c.args.line.now cc) (λ x b q k. search (rules, tests)) in
    rw c.from_residual.ensures (none_begins c.args.line.now found c.in_err-start.was)

pub returns : goal.returns
returns c =
    let found = position_from_yields_List (λ byte. not (blank byte)) _ _ c.position.result c.position.ensures.ran (YieldsList-from_slice c.args.line.now cc) (λ x b q k. search (rules, tests)) in
    let ends = position_from_yields_List blank _ _ c.position-2.result c.position-2.ensures.ran (YieldsList-from_slice (take (length c.args.line.now - c.in_ok-start.start) (drop c.in_ok-start.start c.args.line.now)) cc) (λ x b q k. search (rules, tests)) in
    split_is c.args.line.now (one_begins c.args.line.now found c.in_ok-start.was) ends c.unwrap_or-end.ensures
