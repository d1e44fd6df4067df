-- What is shown of the list: the statements of specs/Shown.antt.
use Prim.Native.Nat.{ℕ, ◌+◌, ◌-◌, ◌*◌, ◌/◌, ◌%◌, ◌≤◌, ◌<◌}
use mathlib.Core.Path.{◌≡◌, refl, sym, ◌∙◌}
use mathlib.Core.Bool.{Bool, true, false, not, ◌&&◌, and-eq-true_iff, true≢false}
use native.Mathlib.Omega.{arith}
use lib.Dec.{eqb, ltb, leb}
use borrow.Author.Tests.{lt-ltb, le-ltb, le-leb, lt-leb, eq-eqb, eqb-true, eqb-false, ltb-true, ltb-false, leb-false}
use Rattle.chain.specs.Chain.{rows}
use Rattle.whole_screen.specs.Screen.{lines, run_start, run_end, at_rest, screen_lines}
use Rattle.whole_screen.specs.Call.{latch_most}
use Rattle.whole_screen.specs.Shown.{row_in, scan_in, Always240, EachIsALine, above, DownTheScreen, NoLineTwice, Stands, shows, StandsWhatShows, OthersInFull, OneRowShowsNone}
use Rattle.whole_screen.specs.Inner.{number_at, shown_at}
use Rattle.whole_screen.proofs.Numbers.{entries_length, entry_at}
use Rattle.whole_screen.proofs.FirstRun.{first_run, moving}
use Rattle.whole_screen.proofs.ByNumber.{at_head, at_run, at_foot, by_number_lem}

-- where a line of the screen stands, and the number that it shows: ahead of the run, in it, under it
pub data Place (first end latch line n : ℕ) : Type 0 where
  Head : line < first * 10 → n ≡ line → Place first end latch line n
  Run : first * 10 ≤ line → line < end * 10 - 10 → n ≡ line + latch → Place first end latch line n
  Foot : first * 10 ≤ line → end * 10 - 10 ≤ line → n ≡ line + 10 → Place first end latch line n

module _ (kinds : ℕ → ℕ) (latch : ℕ) where
  -- at rest each line shows its own number
  pub rests : at_rest kinds latch ≡ true → (line : ℕ) → shown_at kinds latch line ≡ line
  unfolding shown_at
  rests e line = rw e refl

  module _ (small : latch ≤ latch_most) where
    pub row_number : (line : ℕ) → line < lines → row_in (screen_lines kinds latch) line ≡ shown_at kinds latch line / 10
    row_number line h =
        rw (by_number_lem kinds latch small)
        (entry_at (λ k. shown_at kinds latch k / 10) (λ k. shown_at kinds latch k % 10 + 1) lines line h).0

    pub scan_number :
        (line : ℕ) → line < lines → scan_in (screen_lines kinds latch) line ≡ shown_at kinds latch line % 10 + 1
    scan_number line h =
        rw (by_number_lem kinds latch small)
        (entry_at (λ k. shown_at kinds latch k / 10) (λ k. shown_at kinds latch k % 10 + 1) lines line h).1

    pub place :
        at_rest kinds latch ≡ false → (line : ℕ) → Place (run_start kinds) (run_end kinds) latch line (shown_at kinds latch line)
    unfolding shown_at
    place e line = rw e (go (ltb line (first * 10)) (ltb line (end * 10 - 10)) refl refl)
      where
        first : ℕ
        first = run_start kinds

        end : ℕ
        end = run_end kinds

        go :
            (a b : Bool) → ltb line (first * 10) ≡ a → ltb line (end * 10 - 10) ≡ b
            → Place first end latch line (number_at first end latch line)
        go true b f g =
            let under = ltb-true line (first * 10) f in
            Head under (at_head first end latch (moving kinds latch e).0 small line under)
        go false true f g =
            let over = ltb-false line (first * 10) f in
            let under = ltb-true line (end * 10 - 10) g in
            Run over under (at_run first end latch (moving kinds latch e).0 small line over under)
        go false false f g =
            let over = ltb-false line (first * 10) f in
            let under = ltb-false line (end * 10 - 10) g in
            Foot over under (at_foot first end latch (moving kinds latch e).0 small line over under)

    -- a line shows one of the numbers of all rows
    pub within : (line : ℕ) → line < lines → shown_at kinds latch line < 250
    within line h = go (at_rest kinds latch) refl
      where
        placed : (n : ℕ) → Place (run_start kinds) (run_end kinds) latch line n → run_end kinds ≤ rows → n < 250
        placed n (Head f e) among = omega (arith, e, f)
        placed n (Run f g e) among = omega (arith, e, f, g, small)
        placed n (Foot f g e) among = omega (arith, e, f, g)

        go : (b : Bool) → at_rest kinds latch ≡ b → shown_at kinds latch line < 250
        go true e = omega (arith, rests e line)
        go false e = placed (shown_at kinds latch line) (place e line) (first_run kinds).among

    -- and a later line a later one
    pub rises : (line later : ℕ) → line < later → shown_at kinds latch line < shown_at kinds latch later
    rises line later h = go (at_rest kinds latch) refl
      where
        both :
            (n m : ℕ) → Place (run_start kinds) (run_end kinds) latch line n
            → Place (run_start kinds) (run_end kinds) latch later m → n < m
        both n m (Head f e) (Head g d) = omega (arith, e, d)
        both n m (Head f e) (Run g i d) = omega (arith, e, d)
        both n m (Head f e) (Foot g i d) = omega (arith, e, d)
        both n m (Run f j e) (Head g d) = absurd (omega (arith, f, g))
        both n m (Run f j e) (Run g i d) = omega (arith, e, d)
        both n m (Run f j e) (Foot g i d) = omega (arith, e, d, small)
        both n m (Foot f j e) (Head g d) = absurd (omega (arith, f, g))
        both n m (Foot f j e) (Run g i d) = absurd (omega (arith, i, j))
        both n m (Foot f j e) (Foot g i d) = omega (arith, e, d)

        go : (b : Bool) → at_rest kinds latch ≡ b → shown_at kinds latch line < shown_at kinds latch later
        go true e = omega (arith, rests e line, rests e later)
        go false e = both (shown_at kinds latch line) (shown_at kinds latch later) (place e line) (place e later)

pub always_240 : Always240
always_240 kinds latch small =
    (rw (by_number_lem kinds latch small) (entries_length (λ k. shown_at kinds latch k / 10) (λ k. shown_at kinds latch k % 10 + 1) lines), refl)

pub each_is_a_line : EachIsALine
each_is_a_line kinds latch line small h =
    let row = row_number kinds latch small line h in
    let scan = scan_number kinds latch small line h in
    let under = within kinds latch small line h in
    (omega (arith, row, under), (omega (arith, scan), omega (arith, scan)))

-- of two numbers the lower one is of a line above the other's
above_by_number : (n m : ℕ) → n < m → above (n / 10) (n % 10 + 1) (m / 10) (m % 10 + 1) ≡ true
above_by_number n m h = go (ltb (n / 10) (m / 10)) refl
  where
    go : (b : Bool) → ltb (n / 10) (m / 10) ≡ b → above (n / 10) (n % 10 + 1) (m / 10) (m % 10 + 1) ≡ true
    go true e = rw e refl
    go false e =
        let same : n / 10 ≡ m / 10 = omega (arith, ltb-false (n / 10) (m / 10) e) in
        let scans : n % 10 + 1 < m % 10 + 1 = omega (arith, same) in
        rw (e, eq-eqb (n / 10) (m / 10) same, lt-ltb (n % 10 + 1) (m % 10 + 1) scans) refl

pub down_the_screen : DownTheScreen
down_the_screen kinds latch line later small h g =
    rw (
      row_number kinds latch small line (omega arith),
      scan_number kinds latch small line (omega arith),
      row_number kinds latch small later g,
      scan_number kinds latch small later g,
    )
    (above_by_number (shown_at kinds latch line) (shown_at kinds latch later) (rises kinds latch small line later h))

pub no_line_twice : NoLineTwice
no_line_twice kinds latch line other small h g rows_same scans_same = go (ltb line other) (ltb other line) refl refl
  where
    n : ℕ
    n = shown_at kinds latch line

    m : ℕ
    m = shown_at kinds latch other

    same : n ≡ m
    same =
        let a : n / 10 ≡ m / 10 = sym (row_number kinds latch small line h) ∙ rows_same ∙ row_number kinds latch small other g in
        let b : n % 10 + 1 ≡ m % 10 + 1 =
        sym (scan_number kinds latch small line h) ∙ scans_same ∙ scan_number kinds latch small other g in
        omega (arith, a, b)

    go : (a b : Bool) → ltb line other ≡ a → ltb other line ≡ b → line ≡ other
    go true b e f =
        absurd (omega (arith, same, rises kinds latch small line other (ltb-true line other e)))
    go false true e f =
        absurd (omega (arith, same, rises kinds latch small other line (ltb-true other line f)))
    go false false e f = omega (arith, ltb-false line other e, ltb-false other line f)

-- a scan of a row shows where rows scroll: the first row's from over the latch on, the last row's up to the latch
abbrev left : (first end latch row scan : ℕ) → Bool
left first end latch row scan =
    not (eqb row first && leb scan latch) && not (eqb (row + 1) end && ltb latch scan)

left_true :
    (first end latch row scan : ℕ) → (row ≡ first → latch < scan) → (row + 1 ≡ end → scan ≤ latch)
    → left first end latch row scan ≡ true
left_true first end latch row scan top bottom = go (eqb row first) (eqb (row + 1) end) refl refl
  where
    go : (a b : Bool) → eqb row first ≡ a → eqb (row + 1) end ≡ b → left first end latch row scan ≡ true
    go true true e f =
        rw (e, f, lt-leb scan latch (top (eqb-true row first e)), le-ltb latch scan (bottom (eqb-true (row + 1) end f))) refl
    go true false e f = rw (e, f, lt-leb scan latch (top (eqb-true row first e))) refl
    go false true e f = rw (e, f, le-ltb latch scan (bottom (eqb-true (row + 1) end f))) refl
    go false false e f = rw (e, f) refl

left_says :
    (first end latch row scan : ℕ) → left first end latch row scan ≡ true
    → (row ≡ first → latch < scan) × (row + 1 ≡ end → scan ≤ latch)
left_says first end latch row scan h = (
  λ is. go (leb scan latch) refl is,
  λ is. end_go (ltb latch scan) refl is,
)
  where
    halves :
        (not (eqb row first && leb scan latch) ≡ true) × (not (eqb (row + 1) end && ltb latch scan) ≡ true)
    halves = (and-eq-true_iff (not (eqb row first && leb scan latch)) (not (eqb (row + 1) end && ltb latch scan))).0 h

    go : (b : Bool) → leb scan latch ≡ b → row ≡ first → latch < scan
    go true e is = absurd (true≢false (sym (rw (eq-eqb row first is, e) at halves).0))
    go false e is = leb-false scan latch e

    end_go : (b : Bool) → ltb latch scan ≡ b → row + 1 ≡ end → scan ≤ latch
    end_go true e is = absurd (true≢false (sym (rw (eq-eqb (row + 1) end is, e) at halves).1))
    end_go false e is = ltb-false latch scan e

-- the line at which a number stands
stands_at :
    (kinds : ℕ → ℕ) (latch row scan line : ℕ) → latch ≤ latch_most → line < lines → 1 ≤ scan → scan ≤ 10
    → shown_at kinds latch line ≡ row * 10 + scan - 1 → Stands (screen_lines kinds latch) row scan
stands_at kinds latch row scan line small h from to e =
    let a : (row * 10 + scan - 1) / 10 ≡ row = omega (arith, from, to) in
    let b : (row * 10 + scan - 1) % 10 + 1 ≡ scan = omega (arith, from, to) in
    record {
      line = line;
      within = h;
      is_row = row_number kinds latch small line h ∙ rw e a;
      is_scan = scan_number kinds latch small line h ∙ rw e b;
    }

module _
    (kinds : ℕ → ℕ)
    (latch row scan : ℕ)
    (small : latch ≤ latch_most)
    (one : row < rows)
    (from : 1 ≤ scan)
    (to : scan ≤ 10) where
  abbrev first : ℕ
  first = run_start kinds

  abbrev end : ℕ
  end = run_end kinds

  abbrev There : Type 0
  There = Stands (screen_lines kinds latch) row scan

  abbrev p : ℕ
  p = row * 10 + scan - 1

  -- what is left of the run's rows, by their numbers
  over_the_top : first ≤ row → (row ≡ first → latch < scan) → first * 10 + latch ≤ p
  over_the_top h says = go (eqb row first) refl
    where
      go : (b : Bool) → eqb row first ≡ b → first * 10 + latch ≤ p
      go true e = let is = eqb-true row first e in omega (arith, is, says is)
      go false e = let other : (row ≡ first → ⊥) = eqb-false row first e in omega (arith, other, small, from)

  under_the_foot : row < end → (row + 1 ≡ end → scan ≤ latch) → p < end * 10 - 10 + latch
  under_the_foot h says = go (eqb (row + 1) end) refl
    where
      go : (b : Bool) → eqb (row + 1) end ≡ b → p < end * 10 - 10 + latch
      go true e = let is = eqb-true (row + 1) end e in omega (arith, is, says is, from)
      go false e = let other : (row + 1 ≡ end → ⊥) = eqb-false (row + 1) end e in omega (arith, other, to)

  -- the line of a row ahead of the run, of the run, and after it
  ahead_of_it : (n : ℕ) → Place first end latch p n → row < first → n ≡ p
  ahead_of_it n (Head h is) under = is
  ahead_of_it n (Run h g is) under = absurd (omega (arith, h, to))
  ahead_of_it n (Foot h g is) under = absurd (omega (arith, h, to))

  in_it : (n : ℕ) → Place first end latch (p - latch) n → first * 10 + latch ≤ p → p < end * 10 - 10 + latch → n ≡ p
  in_it n (Head h is) top foot = absurd (omega (arith, h))
  in_it n (Run h g is) top foot = omega (arith, is)
  in_it n (Foot h g is) top foot = absurd (omega (arith, g))

  after_it : (n : ℕ) → Place first end latch (p - 10) n → first < end → end ≤ row → n ≡ p
  after_it n (Head h is) some over = absurd (omega (arith, h, from))
  after_it n (Run h g is) some over = absurd (omega (arith, g, from))
  after_it n (Foot h g is) some over = omega (arith, is, from)

  stands_moving :
      (before inside : Bool) → ltb row first ≡ before → ltb row end ≡ inside → at_rest kinds latch ≡ false
      → (row ≡ first → latch < scan) × (row + 1 ≡ end → scan ≤ latch) → There
  stands_moving true inside e f moves says =
      let under = ltb-true row first e in
      let some = (moving kinds latch moves).0 in
      stands_at kinds latch row scan p small (omega (arith, under, some, (first_run kinds).among, to)) from to
      (ahead_of_it (shown_at kinds latch p) (place kinds latch small moves p) under)
  stands_moving false true e f moves says =
      let top = over_the_top (ltb-false row first e) says.0 in
      let foot = under_the_foot (ltb-true row end f) says.1 in
      stands_at kinds latch row scan (p - latch) small (omega (arith, top, foot, (first_run kinds).among)) from to
      (in_it (shown_at kinds latch (p - latch)) (place kinds latch small moves (p - latch)) top foot)
  stands_moving false false e f moves says =
      let over = ltb-false row end f in
      let some = (moving kinds latch moves).0 in
      stands_at kinds latch row scan (p - 10) small (omega (arith, over, some, to, one)) from to
      (after_it (shown_at kinds latch (p - 10)) (place kinds latch small moves (p - 10)) some over)

  pub stands : shows kinds latch row scan ≡ true → There
  stands = go (at_rest kinds latch) refl
    where
      go : (b : Bool) → at_rest kinds latch ≡ b → shows kinds latch row scan ≡ true → There
      go true e h =
          let under : row < 24 = ltb-true row 24 (rw e at h) in
          stands_at kinds latch row scan p small (omega (arith, under, to)) from to (rests kinds latch e p)
      go false e h =
          stands_moving (ltb row first) (ltb row end) refl refl e (left_says first end latch row scan (rw e at h))

  -- and the other way: a line of the list shows
  shown_moving :
      (line n : ℕ) → Place first end latch line n → n ≡ p → first < end → left first end latch row scan ≡ true
  shown_moving line n (Head h is) e some =
      left_true first end latch row scan (λ same. absurd (omega (arith, h, is, e, same, from)))
      (λ last. absurd (omega (arith, h, is, e, last, from)))
  shown_moving line n (Run h g is) e some =
      left_true first end latch row scan (λ same. omega (arith, h, is, e, same, from))
      (λ last. omega (arith, g, is, e, last, from))
  shown_moving line n (Foot h g is) e some =
      left_true first end latch row scan (λ same. absurd (omega (arith, g, is, e, same, to)))
      (λ last. absurd (omega (arith, g, is, e, last, to)))

  pub shown : There → shows kinds latch row scan ≡ true
  shown there = go (at_rest kinds latch) refl
    where
      line : ℕ
      line = there.line

      number : shown_at kinds latch line ≡ p
      number =
          let a = sym (row_number kinds latch small line there.within) ∙ there.is_row in
          let b = sym (scan_number kinds latch small line there.within) ∙ there.is_scan in
          omega (arith, a, b)

      go : (b : Bool) → at_rest kinds latch ≡ b → shows kinds latch row scan ≡ true
      go true e =
          let under : row < 24 = omega (arith, sym (rests kinds latch e line) ∙ number, there.within, from) in
          rw (e, lt-ltb row 24 under) refl
      go false e =
          rw e
          (shown_moving line (shown_at kinds latch line) (place kinds latch small e line) number (moving kinds latch e).0)

pub stands_what_shows : StandsWhatShows
stands_what_shows kinds latch row scan small one from to =
    (stands kinds latch row scan small one from to, shown kinds latch row scan small one from to)

pub others_in_full : OthersInFull
others_in_full kinds latch row scan small one from to moves outside =
    stands kinds latch row scan small one from to
    (rw moves
    (left_true (run_start kinds) (run_end kinds) latch row scan (λ is. absurd (apart (omega (arith, is)) (omega (arith, is, some))))
    (λ is. absurd (apart (omega (arith, is, some)) (omega (arith, is))))))
  where
    some : run_start kinds < run_end kinds
    some = (moving kinds latch moves).0

    apart : run_start kinds ≤ row → row < run_end kinds → ⊥
    apart h g = true≢false (sym (rw (le-leb (run_start kinds) row h, lt-ltb row (run_end kinds) g) refl) ∙ outside)

pub one_row_shows_none : OneRowShowsNone
one_row_shows_none kinds latch scan small from to moves single there =
    let among : run_start kinds < rows = omega (arith, single, (first_run kinds).among) in
    let h = rw moves at (shown kinds latch (run_start kinds) scan small among from to there) in
    let says = left_says (run_start kinds) (run_end kinds) latch (run_start kinds) scan h in
    omega (arith, says.0 refl, says.1 (sym single))

-- the next scan of the run's last row, or of the row after those at rest, does not show
pub next_hidden :
    (kinds : ℕ → ℕ) (latch row : ℕ) → latch < latch_most → at_rest kinds latch ≡ false → row + 1 ≡ run_end kinds
    → Stands (screen_lines kinds latch) row (latch + 1) → ⊥
next_hidden kinds latch row small moves last there =
    let among : row < rows = omega (arith, last, (first_run kinds).among) in
    let h = rw moves at (shown kinds latch row (latch + 1) (omega arith) among (omega arith) (omega arith) there) in
    omega (arith, (left_says (run_start kinds) (run_end kinds) latch row (latch + 1) h).1 last)

pub rest_hidden :
    (kinds : ℕ → ℕ) (latch row : ℕ) → latch < latch_most → at_rest kinds latch ≡ true → row ≡ 24
    → Stands (screen_lines kinds latch) row (latch + 1) → ⊥
rest_hidden kinds latch row small rest last there =
    let h =
    rw rest at (shown kinds latch row (latch + 1) (omega arith) (omega (arith, last)) (omega arith) (omega arith) there) in
    omega (arith, ltb-true row 24 h, last)
