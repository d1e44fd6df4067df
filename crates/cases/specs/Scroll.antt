-- 02, ticket 5: the list of a whole screen, told by the row and the scan that some of its lines show.
use Rattle.std.specs.Prelude.{ℕ, List, [], ◌∷◌, ◌++◌, map, get_or, replicate}
use Rattle.machine.specs.Fields.{with_latch}
use Rattle.machine.specs.Power.{power_up}
use Rattle.machine.specs.Settings.{scroll_latch}
use Rattle.whole_screen.specs.Screen.{screen_lines}
use Rattle.whole_screen.specs.Call.{kinds_in, list_lines}
use Rattle.whole_screen.specs.Shown.{row_in, scan_in}
use Rattle.cases.specs.Said.{Said, Refused, Line, Kind}

-- the kinds of so many rows that stand, or that scroll, and then of others
unfoldable pub standing : (rows : ℕ) → List ℕ → List ℕ
standing rows later = replicate rows 3 ++ later

unfoldable pub scrolling : (rows : ℕ) → List ℕ → List ℕ
scrolling rows later = replicate rows 7 ++ later

-- what these lines show of a screen whose rows have these kinds, with a byte in the latch
unfoldable pub lines_at : (latch : ℕ) → (kinds lines : List ℕ) → List Said
lines_at latch kinds lines =
    let list = screen_lines (λ row. get_or kinds row 0) (scroll_latch (with_latch power_up latch)) in
    map (λ (line : ℕ). Line line (row_in list line) (scan_in list line)) lines

-- a picture whose rows have these bytes for their kinds; every other byte is 00
unfoldable pub of_kinds : (kinds : List ℕ) → List ℕ
of_kinds [] = []
of_kinds (kind ∷ kinds) = 0 ∷ 0 ∷ kind ∷ replicate 265 0x00 ++ of_kinds kinds

-- the kinds of these rows in it
unfoldable pub kinds_at : (kinds rows : List ℕ) → List Said
kinds_at kinds rows = map (λ (row : ℕ). Kind (kinds_in (of_kinds kinds) row)) rows

-- by what the call is refused with such a picture and so many bytes of list
unfoldable pub refused_at : (latch : ℕ) → (kinds : List ℕ) → (bytes : ℕ) → List Said
refused_at latch kinds bytes =
    Refused (list_lines (with_latch power_up latch) (of_kinds kinds) (replicate bytes 0x00)).refusal ∷ []
