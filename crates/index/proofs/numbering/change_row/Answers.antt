use mathlib.Core.Path.{ap, ◌∙◌}
use Rattle.std.specs.Int.{from_bool}
use Rattle.index.proofs.Writing.{row_changed}
use Rattle.index.proofs.numbering.change_row.Goals as goal

pub returns : goal.returns
returns g c =
    row_changed (g.met.C.Change.twice c.args.change) c.args.read.now c.args.index.now c.told-index c.after-low.ensures
    (c.from-links.ensures ∙ ap from_bool c.is_some.ensures) c.change_places.ensures c.change_places-2.ensures
    c.change_places-3.ensures
