-- What a milker sees, which no sentence says outright: with the same rows, a latch one more moves the run up by one
-- line and nothing else.
use Rattle.std.specs.Prelude.{ℕ, ◌+◌, ◌≤◌, ◌<◌, ◌≡◌, List, true, false}
use Rattle.chain.specs.Chain.{rows}
use Rattle.whole_screen.specs.Screen.{lines, run_end, screen_lines}
use Rattle.whole_screen.specs.Call.{latch_most}
use Rattle.whole_screen.specs.Shown.{row_in, scan_in, in_run, Stands}

-- a line of one list is that line of another
abbrev pub SameLine : (list : List ℕ) → (line : ℕ) → (other : List ℕ) → (there : ℕ) → Type 0
SameLine list line other there = (row_in list line ≡ row_in other there) × (scan_in list line ≡ scan_in other there)

pub record MovesUp (kinds : ℕ → ℕ) (latch : ℕ) (before after : List ℕ) : Type 0 where
  -- every line outside the run stays where it is
  pub stays : (line : ℕ) → line < lines → in_run kinds (row_in before line) ≡ false → SameLine after line before line
  -- each line of the run comes to stand one line further up
  pub up :
      (line : ℕ) → line + 1 < lines → in_run kinds (row_in before line) ≡ true
      → in_run kinds (row_in before (line + 1)) ≡ true → SameLine after line before (line + 1)
  -- and at the run's foot one line comes in: the next scan of the run's last row, which did not show
  pub foot :
      (line : ℕ) → line < lines → in_run kinds (row_in before line) ≡ true
      → (line + 1 < lines → in_run kinds (row_in before (line + 1)) ≡ false)
      → (row_in after line + 1 ≡ run_end kinds) × (scan_in after line ≡ latch + 1)
  pub did_not_show : (row : ℕ) → row + 1 ≡ run_end kinds → Stands before row (latch + 1) → ⊥

-- from L to L + 1, for L from 1 to 8
abbrev pub Smooth : Type 0
Smooth =
    (kinds : ℕ → ℕ) (latch : ℕ) → 1 ≤ latch → latch < latch_most
    → MovesUp kinds latch (screen_lines kinds latch) (screen_lines kinds (latch + 1))

-- and from 0 to 1, where the run reaches the last row
abbrev pub SmoothFromRest : Type 0
SmoothFromRest =
    (kinds : ℕ → ℕ) → run_end kinds ≡ rows → MovesUp kinds 0 (screen_lines kinds 0) (screen_lines kinds 1)
