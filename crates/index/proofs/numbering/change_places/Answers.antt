use Rattle.index.proofs.Writing.{places_changed}
use Rattle.index.proofs.numbering.change_places.Goals as goal

pub returns : goal.returns
returns g c =
    rw (← c.at-at.ensures.value)
    (places_changed (g.met.C.Change.twice c.args.change) c.at-at.result c.args.bytes c.args.entries.now c.requires.0
    c.at-at.ensures.within c.requires.1 (rw c.at-at.ensures.value c.before_the_end-straight.ensures) c.change_all.ensures
    c.change_all-2.ensures)
