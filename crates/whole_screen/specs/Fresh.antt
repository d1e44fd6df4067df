-- The list of a fresh picture is that of the chain's own kinds.
use Rattle.std.specs.Prelude.{ℕ, ◌≤◌, ◌≡◌, false}
use Rattle.chain.specs.Chain.{Chain, row_at}
use Rattle.records.specs.Record.{record_pairs, head_of}
use Rattle.picture.specs.Picture.{picture_of}
use Rattle.whole_screen.specs.Screen.{scrolls, screen_lines}
use Rattle.whole_screen.specs.Call.{kinds_in}

-- the kinds of a chain's rows
abbrev pub kinds_of : Chain → (row : ℕ) → ℕ
kinds_of c row = (head_of (row_at c row)).kind

abbrev pub OfTheChain : Type 0
OfTheChain =
    (c : Chain) (latch : ℕ) → c.columns ≤ record_pairs
    → screen_lines (kinds_in (picture_of c)) latch ≡ screen_lines (kinds_of c) latch

-- 003, 2.1.6.6: "the first line on the screen .. has its scrolling attribute reset by definition"
abbrev pub Row0Stands : Type 0
Row0Stands = (c : Chain) → scrolls (kinds_of c 0) ≡ false
