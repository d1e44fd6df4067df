use Prim.Native.Nat.{ℕ, ◌+◌, ◌-◌}
use mathlib.Core.Path.{◌≡◌, ap, ◌∙◌}
use mathlib.Core.List.{List, map}
use native.Mathlib.Omega.{arith}
use lib.ListN.{length, get_or, length-map}
use Rattle.lent.proofs.Maps.{mapped_own}
use Rattle.chain.specs.Chain.{Chain, rows}
use Rattle.chain.specs.Page.{chain_on}
use Rattle.index.specs.Inner.{forgotten}
use Rattle.index.proofs.Walk.{rows_joined, noted_rows, all_numbered}
use Rattle.index.proofs.mend_both.Goals as goal

pub returns-clause-index_after : goal.returns-clause-index_after
returns-clause-index_after c =
    let k : Chain = chain_on c.args.page.now in
    let old : List ℕ = c.args.index.now in
    let whole = c.in-Some.ensures.cases in
    let forgot : c.change_all.new.entries ≡ map (forgotten c.args.first) old =
    c.change_all.ensures ∙ ap (map (forgotten c.args.first)) whole.same in
    let all : c.args.first + (rows - c.args.first) ≡ rows = omega arith in
    let noted = rw all at (noted_rows k c.args.first (rows - c.args.first) c.pass_rows-ahead.array_long c.mend.ensures.rows_noted) in
    all_numbered k c.args.first old c.change_all.new.entries c.mend.new.kept c.requires.within c.requires.index_fits
    (ap (λ (l : List ℕ). length l) forgot ∙ length-map old (forgotten c.args.first) ∙ c.requires.index_fits)
    (λ at h. ap (λ (l : List ℕ). get_or l at 0) forgot ∙ mapped_own (forgotten c.args.first) old at (omega (arith, c.requires.index_fits)))
    (rows_joined c.pass_rows-ahead.ensures.rows_numbered noted)
