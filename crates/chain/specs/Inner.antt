-- No sentence of document 01: what our own functions promise each other.
use Rattle.std.specs.Prelude.{ℕ, zero, suc, ◌+◌, ◌==◌, Bool, Option, Some, None}
use Rattle.chain.specs.Chain.{Chain, Row, Whole, Torn, Dark, first, link, row_from, row_at}
use Rattle.chain.specs.declared.Head.{Head}

-- the code carries from row to row the head of the row that the chain leads to, or that there is none; here, that row
abbrev pub row_ahead : Chain → Option Head → Row
row_ahead c (Some head) = row_from c head
row_ahead c None = Dark

-- what lies ahead after a row
abbrev pub ahead_after : Chain → Row → Option Head
ahead_after c (Whole head cells) = Some (link c.screen c.attribute (head.start + cells))
ahead_after c (Torn head) = None
ahead_after c Dark = None

-- what lies ahead where the walk comes to a row
unfoldable pub ahead_of : Chain → (row : ℕ) → Option Head
ahead_of c zero = Some first
ahead_of c (suc row) = ahead_after c (row_at c row)

-- the byte after a row's last cell
abbrev pub is_ff : ℕ → Bool
is_ff byte = byte == 0xFF
