use mathlib.Core.Path.{◌≡◌, sym, ap, ◌∙◌}
use native.Mathlib.Omega.{arith}
use Rattle.chain.specs.Chain.{row_from, ended, Whole, Torn}
use Rattle.chain.specs.Reading.{screen_read, attribute_read}
use Rattle.chain.specs.Page.{chain_on}
use Rattle.readers.proofs.Walk.{none_of_shared, seek_begins, seek_torn, seek_ends, seek_goes_on, seek_fails}
use Rattle.readers.proofs.first_reader.Goals as goal

pub returns-in-Shared : goal.returns-in-Shared
returns-in-Shared c = none_of_shared (chain_on c.args.page.now) _ c.in-Shared.is

pub loop-row-init : goal.loop-row-init
loop-row-init c = rw c.first-head.ensures (seek_begins _ _)

pub returns-in_default-find_terminator : goal.returns-in_default-find_terminator
unfolding row_from screen_read attribute_read
returns-in_default-find_terminator c =
    let head = c.loop-row.head in
    let torn : row_from (chain_on c.args.page.now) head ≡ Torn head =
    ap (ended head) (sym c.find_terminator.ensures.found ∙ c.in_default-find_terminator.is) in
    c.then_some.ensures
    ∙ seek_torn c.loop-row.invariant c.loop-row-test.true c.torn_reads.result torn
    (c.torn_reads.ensures ∙ rw c.capacity.ensures.value)

pub returns-then-whole_reads : goal.returns-then-whole_reads
unfolding row_from screen_read attribute_read
returns-then-whole_reads c =
    let head = c.loop-row.head in
    let whole : row_from (chain_on c.args.page.now) head ≡ Whole head c.in-Some.cells =
    ap (ended head) (sym c.find_terminator.ensures.found ∙ c.in-Some.is) in
    seek_ends c.loop-row.invariant c.loop-row-test.true (rw whole (sym c.whole_reads.ensures ∙ c.if-whole_reads.true))

pub loop-row-preserved : goal.loop-row-preserved
unfolding row_from attribute_read screen_read
loop-row-preserved c =
    let head = c.loop-row.head in
    let whole : row_from (chain_on c.args.page.now) head ≡ Whole head c.in-Some.cells =
    ap (ended head) (sym c.find_terminator.ensures.found ∙ c.in-Some.is) in
    seek_goes_on c.loop-row.invariant c.loop-row-test.true whole (sym c.whole_reads.ensures ∙ c.if-whole_reads.false)
    c.link-head.ensures

pub returns : goal.returns
returns c = seek_fails c.loop-row.invariant (omega arith) (omega arith)
