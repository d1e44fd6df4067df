use Prim.Native.Nat.{ℕ}
use mathlib.Core.Path.{◌≡◌, refl, ap, ◌∙◌}
use mathlib.Core.List.{List}
use lib.ListN.{length, replicate}
use Rattle.std.proofs.lemmas.Option.{MatchOption-at_some}
use Rattle.lent.specs.Lengths.{index_bytes}
use Rattle.lent.specs.Refusals.{accepted}
use Rattle.chain.specs.Page.{chain_on}
use Rattle.picture.specs.Draw.{chain_of}
use Rattle.index.specs.Index.{no_row, lengths_index, index_of, indexed}
use Rattle.index.proofs.Walk.{fresh_numbered}
use Rattle.index.proofs.index_readers.Goals as goal

pub returns : goal.returns
unfolding lengths_index
returns c =
    let a = c.args in
    let whole = MatchOption-at_some _ _ c.in_ok-index.index c.in_ok-index.ensures.ok_part c.as_mut_array.ensures.cases in
    let size : length c.in_ok-index.index.now ≡ index_bytes = ap (λ (l : List ℕ). length l) whole.same ∙ whole.long in
    let blank = c.fill.ensures.after (λ y e. e) ∙ ap (λ (n : ℕ). replicate n no_row) size in
    let page : chain_on c.page_of-page.result ≡ chain_of a.machine a.screen.now a.attribute.now =
    c.page_of-page.ensures ∙ rw (c.in_ok-screen.ensures.ok, c.in_ok-attribute.ensures.ok) in
    let new = fresh_numbered (chain_on c.page_of-page.result) blank c.pass_rows.ensures.rows_numbered ∙ ap index_of page in
    rw (c.in_ok-screen.ensures.fits.0 refl, c.in_ok-attribute.ensures.fits.0 refl, whole.long) (ap (indexed accepted) new)
