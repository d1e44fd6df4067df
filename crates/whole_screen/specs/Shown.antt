-- Document 02, ticket 5: what is shown of the list, whatever the kinds, at every L from 0 to 9.
use Rattle.std.specs.Prelude.{ℕ, ◌+◌, ◌*◌, ◌≤◌, ◌<◌, ◌≡◌, List, Bool, true, false, not, ◌&&◌, ◌||◌, length, get_or, if◌then◌else◌, ◌==◌, nat_lt, nat_le}
use Rattle.lent.specs.Lengths.{list_bytes}
use Rattle.chain.specs.Chain.{rows, rows_at_rest}
use Rattle.glyphs.specs.Scans.{first_scan, last_scan}
use Rattle.whole_screen.specs.Screen.{lines, scrolls, run_start, run_end, at_rest, screen_lines}
use Rattle.whole_screen.specs.Call.{latch_most}

-- "row then scan for each line from the top"
abbrev pub row_in : (list : List ℕ) → (line : ℕ) → ℕ
row_in list line = get_or list (2 * line) 0

abbrev pub scan_in : (list : List ℕ) → (line : ℕ) → ℕ
scan_in list line = get_or list (2 * line + 1) 0

-- whether a row is of the run
abbrev pub in_run : (kinds : ℕ → ℕ) → (row : ℕ) → Bool
in_run kinds row = nat_le (run_start kinds) row && nat_lt row (run_end kinds)

-- "the first unbroken run of rows with the scrolling bit among the 25": no row ahead of it has the bit, each of its
-- rows has, and the row after it has not; where there is none, no row has
pub record FirstRun (kinds : ℕ → ℕ) : Type 0 where
  pub ahead : (row : ℕ) → row < run_start kinds → scrolls (kinds row) ≡ false
  pub unbroken : (row : ℕ) → in_run kinds row ≡ true → scrolls (kinds row) ≡ true
  pub has_rows : run_start kinds < rows → run_start kinds < run_end kinds
  pub among : run_end kinds ≤ rows
  pub ends : run_end kinds < rows → scrolls (kinds (run_end kinds)) ≡ false

abbrev pub RunIsFirst : Type 0
RunIsFirst = (kinds : ℕ → ℕ) → FirstRun kinds

-- "It is shown to be 240 lines for every L from 0 to 9."
abbrev pub Always240 : Type 0
Always240 =
    (kinds : ℕ → ℕ) (latch : ℕ) → latch ≤ latch_most
    → (length (screen_lines kinds latch) ≡ 2 * lines) × (2 * lines ≡ list_bytes)

-- each entry is a row of the 25 and a scan of 1 to 10
abbrev pub EachIsALine : Type 0
EachIsALine =
    (kinds : ℕ → ℕ) (latch line : ℕ) → latch ≤ latch_most → line < lines → let list = screen_lines kinds latch in
    (row_in list line < rows) × ((first_scan ≤ scan_in list line) × (scan_in list line ≤ last_scan))

-- the lines go down the screen, by row and then by scan, and no line stands there twice
abbrev pub above : (row scan other_row other_scan : ℕ) → Bool
above row scan other_row other_scan = nat_lt row other_row || (row == other_row && nat_lt scan other_scan)

abbrev pub DownTheScreen : Type 0
DownTheScreen =
    (kinds : ℕ → ℕ) (latch line later : ℕ) → latch ≤ latch_most → line < later → later < lines
    → let list = screen_lines kinds latch in
    above (row_in list line) (scan_in list line) (row_in list later) (scan_in list later) ≡ true

abbrev pub NoLineTwice : Type 0
NoLineTwice =
    (kinds : ℕ → ℕ) (latch line other : ℕ) → latch ≤ latch_most → line < lines → other < lines
    → let list = screen_lines kinds latch in
    row_in list line ≡ row_in list other → scan_in list line ≡ scan_in list other → line ≡ other

-- a scan of a row stands somewhere in the list
pub record Stands (list : List ℕ) (row scan : ℕ) : Type 0 where
  pub line : ℕ
  pub within : line < lines
  pub is_row : row_in list line ≡ row
  pub is_scan : scan_in list line ≡ scan

-- which scans show, told of a row and a scan alone: "With no such run, or with L 0, rows 0 to 23 show in full.
-- Otherwise all 25 show, but the run's first row loses its top L scans and its last row its bottom 10 less L", those
-- over L
abbrev pub shows : (kinds : ℕ → ℕ) → (latch row scan : ℕ) → Bool
shows kinds latch row scan =
    if at_rest kinds latch
    then nat_lt row rows_at_rest
    else not (row == run_start kinds && nat_le scan latch) && not (row + 1 == run_end kinds && nat_lt latch scan)

abbrev pub StandsWhatShows : Type 0
StandsWhatShows =
    (kinds : ℕ → ℕ) (latch row scan : ℕ) → latch ≤ latch_most → row < rows → first_scan ≤ scan → scan ≤ last_scan
    → let list = screen_lines kinds latch in
    (shows kinds latch row scan ≡ true → Stands list row scan)
    × (Stands list row scan → shows kinds latch row scan ≡ true)

-- where all 25 show, every row outside the run shows all ten scans
abbrev pub OthersInFull : Type 0
OthersInFull =
    (kinds : ℕ → ℕ) (latch row scan : ℕ) → latch ≤ latch_most → row < rows → first_scan ≤ scan → scan ≤ last_scan
    → at_rest kinds latch ≡ false → in_run kinds row ≡ false → Stands (screen_lines kinds latch) row scan

-- "a run of one row shows none"
abbrev pub OneRowShowsNone : Type 0
OneRowShowsNone =
    (kinds : ℕ → ℕ) (latch scan : ℕ) → latch ≤ latch_most → first_scan ≤ scan → scan ≤ last_scan
    → at_rest kinds latch ≡ false → run_end kinds ≡ run_start kinds + 1
    → Stands (screen_lines kinds latch) (run_start kinds) scan → ⊥
