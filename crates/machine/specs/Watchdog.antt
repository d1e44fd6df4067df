-- Document 02, ticket 3: the watchdog's tick. What code 09, enabling and disabling do to the count stands in
-- crates/dc012 and crates/ports, and what the count means over a run of calls in crates/runs/specs/Watchdog.antt.
use Rattle.std.specs.Prelude.{ℕ, ◌+◌, Bool, not, cond, ◌||◌, ltb}
use Rattle.machine.specs.declared.Machine.{Machine}
use Rattle.machine.specs.Fields.{with_count, with_reset}

-- "Take 128 ticks for both.": from the last code 09 to reset, and from there to its end
abbrev pub watch_ticks : ℕ
watch_ticks = 128

-- the count goes on while the watchdog is enabled, and in reset: reset that has begun ends, also in a machine whose
-- watchdog is disabled, as no run of calls from power-up makes one
abbrev pub counts : Machine → Bool
counts m = m.reset || m.watchdog

-- "one call advances them by a tick". The count "stays 0 while disabled". "While enabled, reset begins at the 128th
-- tick .. Reset ends at the 128th tick after it began, with the count 0 and the watchdog still enabled; nothing else in
-- the machine changes." A count over 127, which no run of calls from power-up makes, is as 127: the next tick is the
-- 128th
abbrev pub watchdog_tick : Machine → Machine
watchdog_tick m =
    cond (not (counts m)) (with_count m 0)
    (cond (ltb (m.count + 1) watch_ticks) (with_count m (m.count + 1))
    (with_count (with_reset m (not m.reset)) 0))
