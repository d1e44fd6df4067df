-- Document 02, ticket 1: "A dealer's patched herd book leaves rubbish in the top four bits of some links."
use Rattle.std.specs.Prelude.{ℕ, ◌+◌, ◌/◌, ◌≡◌, List, Bool, true, false, not, ◌==◌}
use Rattle.chain.specs.Chain.{Chain, Row, Whole, Torn, Dark, byte_at}

-- the top four bits of a byte, as a number
abbrev pub top_four : ℕ → ℕ
top_four byte = byte / 16

-- "whether its link had any of those bits set": the link after the FF at `place`, of which the high byte is the second
unfoldable pub wild_link : (screen : List ℕ) → (place : ℕ) → Bool
wild_link screen place = not (top_four (byte_at screen (place + 2)) == 0)

-- "The reading of one row should now also say" so. "A torn or dark row has no link."
unfoldable pub wild : Chain → Row → Bool
wild c (Whole head cells) = wild_link c.screen (head.start + cells)
wild c (Torn head) = false
wild c Dark = false

-- a row that has a link
abbrev pub IsWhole : Row → Type 0
IsWhole (Whole head cells) = Unit {0}
IsWhole (Torn head) = ⊥
IsWhole Dark = ⊥

abbrev pub WildIsWhole : Type 0
WildIsWhole = (c : Chain) (row : Row) → wild c row ≡ true → IsWhole row
