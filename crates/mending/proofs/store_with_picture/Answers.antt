use mathlib.Core.Path.{refl, sym, ◌∙◌}
use Rattle.std.specs.Prelude.{Some}
use Rattle.mending.proofs.Outcome.{goes_on, comes_stored, none_stored}
use Rattle.mending.proofs.store_with_picture.Goals as goal

pub mend-requires-clause-comes : goal.mend-requires-clause-comes
mend-requires-clause-comes c =
    let a = c.args in
    comes_stored a.machine (Some c.in_ok-seen.seen) c.in-Some.first a.shared.now a.screen.now a.attribute.now a.byte
    c.page_lent.ensures c.page_lent-page.ensures c.store_at.ensures (sym c.in-Some.is ∙ c.first_reader-first.ensures)

pub returns-in_default : goal.returns-in_default
returns-in_default c =
    let a = c.args in
    let on =
    goes_on a.machine a.shared.now a.screen.now a.attribute.now a.picture.now a.address a.byte
    (c.in_ok-lend.ensures.fits.0 refl) (c.in_ok-lend-2.ensures.fits.0 refl) (c.in_ok-lend-3.ensures.fits.0 refl)
    (c.in_ok-lend-4.ensures.fits.0 refl) c.in_ok-seen.ensures.number in
    none_stored a.machine a.shared.now a.screen.now a.attribute.now a.picture.now a.address a.byte
    (Some c.in_ok-seen.seen) on c.page_lent.ensures c.in_ok-seen.ensures.memory
    (sym c.in_default.is ∙ c.first_reader-first.ensures) c.store_at.ensures
