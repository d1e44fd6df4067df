use Rattle.std.proofs.Common.{◌+◌, ◌-◌, ◌<◌, ◌≡◌, sym, ap, ◌∙◌, arith}
use Rattle.std.proofs.lemmas.Result.{err_from_is_err_and}
use Rattle.chain.specs.Chain.{rows}
use Rattle.chain.specs.Page.{chain_on}
use Rattle.explaining.specs.Explain.{reached}
use Rattle.explaining.proofs.Laws.{reached_first, reached_after, reached_dark}
use Rattle.explaining.proofs.+reach.Goals as goal

pub returns-then-row-eq0 : goal.returns-then-row-eq0
returns-then-row-eq0 t c = rw (c.if-row-eq0.true, c.first.ensures) (reached_first _)

pub returns-in_err-before : goal.returns-in_err-before
returns-in_err-before t c =
    let last : c.args.row - 1 + 1 ≡ c.args.row = omega arith in
    let more : c.args.row - 1 < rows = omega arith in
    let p = err_from_is_err_and c.from_residual.result c.from_residual.ensures.1 in
    rw (p.1, p.2) (reached_dark _ (c.args.row - 1) more _ (sym c.in_err-before.ensures) ∙ ap (reached (chain_on c.args.page.now)) last)

pub returns : goal.returns
returns t c =
    let last : c.args.row - 1 + 1 ≡ c.args.row = omega arith in
    let more : c.args.row - 1 < rows = omega arith in
    rw (c.ok_or.ensures.value, c.follow.ensures)
    (reached_after _ (c.args.row - 1) more _ (sym c.in_ok-before.ensures) ∙ ap (reached (chain_on c.args.page.now)) last)
