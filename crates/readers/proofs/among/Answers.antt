use Prim.Native.Nat.{◌<◌}
use mathlib.Core.Path.{sym}
use Rattle.chain.specs.Places.{places}
use Rattle.readers.proofs.Laws.{among-from}
use Rattle.readers.proofs.among.Goals as goal

pub returns : goal.returns
returns c =
    let begins : c.args.start < places = rw (← c.at.ensures.value) c.at.ensures.within in
    rw c.at.ensures.value (sym (among-from c.args.place c.args.start c.requires.0 begins c.args.bytes c.requires.1))
