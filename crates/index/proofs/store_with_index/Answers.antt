use mathlib.Core.Path.{refl, sym, ◌∙◌}
use Rattle.std.specs.Prelude.{Some}
use Rattle.index.proofs.Outcome.{goes_on, none_named}
use Rattle.index.proofs.store_with_index.Goals as goal

pub returns-in_default : goal.returns-in_default
returns-in_default c =
    let a = c.args in
    let on =
    goes_on a.machine a.shared.now a.screen.now a.attribute.now a.picture.now a.index.now a.address a.byte
    (c.in_ok-lend.ensures.fits.0 refl) (c.in_ok-lend-2.ensures.fits.0 refl) (c.in_ok-lend-3.ensures.fits.0 refl)
    (c.in_ok-lend-4.ensures.fits.0 refl) (c.in_ok-lend-5.ensures.fits.0 refl) c.in_ok-seen.ensures.number in
    none_named a.machine a.shared.now a.screen.now a.attribute.now a.picture.now a.index.now a.address a.byte
    (Some c.in_ok-seen.seen) on c.in_ok-seen.ensures.memory c.store_at.ensures (sym c.in_default.is ∙ c.row_named.ensures)
