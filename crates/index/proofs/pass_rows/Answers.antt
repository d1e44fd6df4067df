use mathlib.Core.Path.{◌≡◌}
use mathlib.Core.Bool.{true}
use native.Mathlib.Omega.{arith}
use borrow.Author.Rules.{rules}
use Rattle.std.specs.Prelude.{is_none}
use Rattle.chain.specs.Page.{chain_on}
use Rattle.mending.proofs.Walk.{read_at_row, read_in_places}
use Rattle.index.proofs.Walk.{passing_begins, passing_goes_on, dark_ends}
use Rattle.index.proofs.pass_rows.Goals as goal

pub loop-row-init : goal.loop-row-init
loop-row-init c = rw c.first.ensures (passing_begins _ _ _)

pub returns-then-is_none-clause-lies_ahead : goal.returns-then-is_none-clause-lies_ahead
returns-then-is_none-clause-lies_ahead c =
    let ends : is_none c.loop-row.ahead ≡ true = search rules in
    (dark_ends c.loop-row.row c.args.passed c.loop-row.invariant (omega arith) ends).comes

pub returns-then-is_none-clause-rows_numbered : goal.returns-then-is_none-clause-rows_numbered
returns-then-is_none-clause-rows_numbered c =
    let ends : is_none c.loop-row.ahead ≡ true = search rules in
    (dark_ends c.loop-row.row c.args.passed c.loop-row.invariant (omega arith) ends).numbers

pub number_passed-requires : goal.number_passed-requires
number_passed-requires c =
    let k = chain_on c.args.page.now in
    let read = c.read_ahead-read.ensures in
    read_in_places k c.loop-row.row c.args.page.now.few
    (read_at_row k c.loop-row.row c.loop-row.invariant.comes read.value) read.fits

pub loop-row-preserved : goal.loop-row-preserved
loop-row-preserved c =
    passing_goes_on c.loop-row.invariant c.told-index c.read_ahead-read.ensures.value c.number_passed.ensures

pub returns-clause-lies_ahead : goal.returns-clause-lies_ahead
returns-clause-lies_ahead c =
    let last : c.loop-row.row ≡ c.args.passed = omega arith in
    let comes = c.loop-row.invariant.comes in
    rw last at comes

pub returns-clause-rows_numbered : goal.returns-clause-rows_numbered
returns-clause-rows_numbered c =
    let last : c.loop-row.row ≡ c.args.passed = omega arith in
    let numbers = c.loop-row.invariant.numbers in
    rw last at numbers
