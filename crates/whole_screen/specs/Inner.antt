-- No sentence of a document: what our own functions promise each other. All rows in full have ten lines each, which are
-- numbered from the top, and the list is told by these numbers.
use Rattle.std.specs.Prelude.{ℕ, ◌+◌, ◌-◌, ◌*◌, ◌/◌, ◌%◌, ◌≡◌, List, [], ◌∷◌, Option, Some, None, if◌then◌else◌, ◌==◌, nat_lt}
use Rattle.chain.specs.Chain.{rows}
use Rattle.picture.specs.Picture.{in_order}
use Rattle.glyphs.specs.Scans.{first_scan, last_scan}
use Rattle.whole_screen.specs.declared.Run.{Run}
use Rattle.whole_screen.specs.Screen.{lines, run_start, run_end, at_rest}

abbrev pub lines_of_rows : ℕ
lines_of_rows = rows * last_scan

-- the row and the scan of the line with a number
abbrev pub numbered : (number : ℕ) → List ℕ
numbered number = number / last_scan ∷ (number % last_scan + first_scan) ∷ []

-- so many lines, from a number on
abbrev pub lines_from : (number count : ℕ) → List ℕ
lines_from number = in_order (λ more. numbered (number + more))

-- a list of all of them
unfoldable pub Listed : List ℕ → Type 0
Listed all = all ≡ lines_from 0 lines_of_rows

-- the run, where there is one
unfoldable pub run_of : (kinds : ℕ → ℕ) → Option Run
run_of kinds =
    if run_start kinds == rows then None else Some (record { first = run_start kinds; end = run_end kinds })

-- the number of the line that stands at `line` of the screen, where the run is from the row `first` on and ahead of the
-- row `end`
unfoldable pub number_at : (first end latch line : ℕ) → ℕ
number_at first end latch line =
    if nat_lt line (first * last_scan)
    then line
    else if nat_lt line (end * last_scan - last_scan) then line + latch else line + last_scan

-- and whether a run scrolls or not
unfoldable pub shown_at : (kinds : ℕ → ℕ) → (latch line : ℕ) → ℕ
shown_at kinds latch line =
    if at_rest kinds latch then line else number_at (run_start kinds) (run_end kinds) latch line

abbrev pub by_number : (ℕ → ℕ) → List ℕ
by_number number = in_order (λ line. numbered (number line)) lines
