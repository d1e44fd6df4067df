-- What a wild row is: the statement of specs/Wild.antt.
use mathlib.Core.Path.{sym}
use mathlib.Core.Bool.{true≢false}
use Rattle.chain.specs.Chain.{Whole, Torn, Dark}
use Rattle.chain.specs.Wild.{wild, WildIsWhole}

pub wild_is_whole : WildIsWhole
unfolding wild
wild_is_whole c (Whole head cells) h = tt
wild_is_whole c (Torn head) h = absurd (true≢false (sym h))
wild_is_whole c Dark h = absurd (true≢false (sym h))
