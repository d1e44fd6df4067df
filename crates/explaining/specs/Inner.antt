-- No sentence of a document: what our own functions promise each other.
use Rattle.std.specs.Prelude.{ℕ, ◌+◌, ◌%◌, cond, leb, ltb, Option, Some, None, Result}
use Rattle.std.specs.Option.{ok_or}
use Rattle.chain.specs.Chain.{Chain, places, capacity, terminator, link}
use Rattle.chain.specs.declared.Head.{Head}
use Rattle.explaining.specs.Explain.{cell_of, fill_of}
use Rattle.explaining.specs.declared.Reached.{Reached}
use Rattle.explaining.specs.declared.Why.{Why}
use Rattle.explaining.specs.declared.Why.TheVariants.{Past}

-- what a row with this head leads to, if it has a link
abbrev pub follows_end : Chain → Head → Option ℕ → Option Reached
follows_end c head (Some cells) =
    let place = head.start + cells in
    Some (record { head = link c.screen c.attribute place; led = Some ((place + 1) % places) })
follows_end c head None = None

abbrev pub follows : Chain → Head → Option Reached
follows c head = follows_end c head (terminator c head)

-- what the chain comes to after it; where it has none, it is the row that tore
abbrev pub after : Chain → (row : ℕ) → Head → Result Reached ℕ
after c row head = ok_or (follows c head) row

-- why a column of a row that is reached shows what it shows
abbrev pub in_ended : Reached → (column : ℕ) → Option ℕ → Why
in_ended found column (Some cells) =
    cond (ltb column cells) (cell_of found.head found.led column) (fill_of found.head found.led cells)
in_ended found column None = cell_of found.head found.led column

abbrev pub in_row : Chain → Reached → (column : ℕ) → Why
in_row c found column =
    cond (leb (capacity c.columns found.head.kind) column) (Past found.led)
    (in_ended found column (terminator c found.head))
