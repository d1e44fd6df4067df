-- Document 02, ticket 5: the lines of a whole screen.
use Rattle.std.specs.Prelude.{ℕ, ◌+◌, ◌-◌, List, [], ◌∷◌, Bool, not, ◌||◌, if◌then◌else◌, ◌==◌}
use Rattle.machine.specs.Settings.{bit}
use Rattle.chain.specs.Chain.{rows, rows_at_rest}
use Rattle.chain.specs.First.{first_that}
use Rattle.picture.specs.Picture.{in_order}
use Rattle.glyphs.specs.Scans.{first_scan, last_scan}

-- "A screen is 240 lines; the call fills a lent list of 480 bytes, row then scan for each line from the top."
abbrev pub lines : ℕ
lines = 240

-- so many lines of a row, from a scan on
abbrev pub lines_of : (row scan count : ℕ) → List ℕ
lines_of row scan = in_order (λ more. row ∷ (scan + more) ∷ [])

-- "Let L be the scroll latch and take the first unbroken run of rows with the scrolling bit among the 25." 01: "bit 2
-- scrolling"
abbrev pub scrolls : (kind : ℕ) → Bool
scrolls kind = bit 2 kind == 1

-- the run's first row, and the row after its last one; both are `rows` where there is no run
unfoldable pub run_start : (kinds : ℕ → ℕ) → ℕ
run_start kinds = first_that (λ row. scrolls (kinds row)) 0 rows

unfoldable pub run_end : (kinds : ℕ → ℕ) → ℕ
run_end kinds = first_that (λ row. not (scrolls (kinds row))) (run_start kinds) (rows - run_start kinds)

-- "With no such run, or with L 0, rows 0 to 23 show in full."
unfoldable pub at_rest : (kinds : ℕ → ℕ) → (latch : ℕ) → Bool
at_rest kinds latch = run_start kinds == rows || latch == 0

abbrev pub in_full : (row : ℕ) → List ℕ
in_full row = lines_of row first_scan last_scan

-- "Otherwise all 25 show, but the run's first row loses its top L scans and its last row its bottom 10 less L; a run of
-- one row shows none."
abbrev pub lost_at_top : (kinds : ℕ → ℕ) → (latch row : ℕ) → ℕ
lost_at_top kinds latch row = if row == run_start kinds then latch else 0

abbrev pub lost_at_bottom : (kinds : ℕ → ℕ) → (latch row : ℕ) → ℕ
lost_at_bottom kinds latch row = if row + 1 == run_end kinds then last_scan - latch else 0

abbrev pub scrolled : (kinds : ℕ → ℕ) → (latch row : ℕ) → List ℕ
scrolled kinds latch row =
    let top = lost_at_top kinds latch row in
    let bottom = lost_at_bottom kinds latch row in
    lines_of row (first_scan + top) (last_scan - (top + bottom))

-- of a screen whose rows are of these kinds, at a latch of 0 to 9
unfoldable pub screen_lines : (kinds : ℕ → ℕ) → (latch : ℕ) → List ℕ
screen_lines kinds latch =
    if at_rest kinds latch then in_order in_full rows_at_rest else in_order (scrolled kinds latch) rows
