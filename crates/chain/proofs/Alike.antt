-- Rows are what they read: the statements of specs/Alike.antt.
use Prim.Native.Nat.{ℕ, zero, suc, ◌+◌, ◌%◌, ◌≤◌, ◌<◌}
use mathlib.Core.Path.{◌≡◌, refl, sym, ap, ◌∙◌}
use mathlib.Core.List.{List, ◌++◌}
use native.Mathlib.Nat.{mod-mod, add-zero, add_assoc}
use native.Mathlib.Omega.{arith}
use Rattle.std.proofs.lemmas.Bool.Decides.{nat_tests}
use lib.ListN.{get_or}
use Rattle.chain.specs.Chain.{Chain, places, byte_at, capacity, first_ff, terminator, ended, link, row_from, row_at}
use Rattle.chain.specs.Reading.{from, screen_read, attribute_read}
use Rattle.chain.specs.Inner.{row_ahead, ahead_after, ahead_of}
use Rattle.chain.specs.Alike.{bytes_at, read_ahead_of_high, low_four, ReadAlike, RowIsWhatItReads, RowsAreWhatTheyRead}
use Rattle.chain.specs.declared.Head.{Head}
use Rattle.std.specs.Prelude.{Option, Some, None}
use Rattle.chain.proofs.Laws.{ahead_leads}

-- a place and the place modulo 4,096 are one
pub same_place : (s : List ℕ) (place : ℕ) → byte_at s (place % places) ≡ byte_at s place
unfolding byte_at
same_place s place = ap (λ (n : ℕ). get_or s n 0) (mod-mod place places)

module _ (s t : List ℕ) where
  -- the byte at each place of a stretch
  pub each_alike :
      (place n : ℕ) → bytes_at s (from place n) ≡ bytes_at t (from place n)
      → (i : ℕ) → i < n → byte_at s (place + i) ≡ byte_at t (place + i)
  unfolding from
  each_alike place zero e i h = absurd (omega arith)
  each_alike place (suc n) e zero h = grind (arith, same_place s place, same_place t place)
  each_alike place (suc n) e (suc i) h =
      let later : bytes_at s (from (place + 1) n) ≡ bytes_at t (from (place + 1) n) = cc in
      let at : place + suc i ≡ place + 1 + i = omega arith in
      rw at (each_alike (place + 1) n later i (omega arith))

  -- a stretch that is a byte shorter
  pub shorter_alike :
      (place n : ℕ) → bytes_at s (from place (suc n)) ≡ bytes_at t (from place (suc n))
      → bytes_at s (from place n) ≡ bytes_at t (from place n)
  unfolding from
  shorter_alike place zero e = refl
  shorter_alike place (suc n) e = grind (arith, shorter_alike (place + 1) n)

  -- two stretches, one after the other
  pub both_alike :
      (place n : ℕ) (rest : List ℕ) → bytes_at s (from place n ++ rest) ≡ bytes_at t (from place n ++ rest)
      → (bytes_at s (from place n) ≡ bytes_at t (from place n)) × (bytes_at s rest ≡ bytes_at t rest)
  unfolding from
  both_alike place zero rest e = (refl, e)
  both_alike place (suc n) rest e = grind (arith, both_alike (place + 1) n rest)

-- how far a search has looked that ended so, at most to `end`
abbrev pub looked : ℕ → Option ℕ → ℕ
looked end (Some n) = n + 1
looked end None = end

module _ (s : List ℕ) (start : ℕ) where
  looked_from : (cells bytes : ℕ) → cells ≤ looked (cells + bytes) (first_ff s start cells bytes)
  unfolding first_ff
  looked_from cells zero = omega arith
  looked_from cells (suc bytes) = grind (arith, nat_tests, looked_from (cells + 1) bytes)

  -- a search in another memory ends alike where all that was looked at is alike
  search_alike :
      (t : List ℕ) (cells bytes : ℕ)
      → ((i : ℕ) → i < looked (cells + bytes) (first_ff s start cells bytes) → byte_at s (start + i) ≡ byte_at t (start + i))
      → first_ff t start cells bytes ≡ first_ff s start cells bytes
  unfolding first_ff
  search_alike t cells zero alike = refl
  search_alike t cells (suc bytes) alike =
      grind (arith, nat_tests, looked_from (cells + 1) bytes, search_alike t (cells + 1) bytes, alike cells)

pub link_alike :
    (c d : Chain) (place : ℕ) → byte_at c.screen (place + 1) ≡ byte_at d.screen (place + 1)
    → byte_at c.screen (place + 2) % 16 ≡ byte_at d.screen (place + 2) % 16
    → byte_at c.attribute (place + 1) ≡ byte_at d.attribute (place + 1)
    → link d.screen d.attribute place ≡ link c.screen c.attribute place
unfolding link
link_alike c d place low high kind = grind arith

module _ (c d : Chain) (head : Head) where
  -- a row ends alike where the bytes that its search looked at are alike
  terminator_alike :
      (t : Option ℕ) → terminator c head ≡ t → c.columns ≡ d.columns
      → ((i : ℕ) → i < looked (capacity c.columns head.kind + 1) t
      → byte_at c.screen (head.start + i) ≡ byte_at d.screen (head.start + i))
      → terminator d head ≡ t
  unfolding terminator
  terminator_alike t e same alike =
      let bytes = capacity c.columns head.kind + 1 in
      let end : 0 + bytes ≡ bytes = omega arith in
      rw (← same) (search_alike c.screen head.start d.screen 0 bytes (rw (end, e) alike) ∙ e)

  row_alike :
      (t : Option ℕ) → terminator c head ≡ t → ReadAlike c d (ended head t)
      → (ended head (terminator d head) ≡ ended head t) × (ahead_after d (ended head t) ≡ ahead_after c (ended head t))
  unfolding read_ahead_of_high low_four screen_read attribute_read
  row_alike (Some n) e alike =
      let start = head.start in
      let screen = each_alike c.screen d.screen start (n + 2) alike.screen in
      let beside = (both_alike c.attribute d.attribute start n (from (start + n + 1) 1) alike.attribute).1 in
      let kind = each_alike c.attribute d.attribute (start + n + 1) 1 beside 0 (omega arith) in (
        ap (ended head) (terminator_alike (Some n) e alike.columns (λ i h. screen i (omega arith))),
        ap Some
            (link_alike c d (start + n)
            (rw (add_assoc start n 1) (screen (n + 1) (omega arith)))
            alike.high
            (rw add-zero at kind)),
      )
  row_alike None e alike = (
    ap (ended head)
        (terminator_alike None e alike.columns (each_alike c.screen d.screen head.start _ alike.screen)),
    refl,
  )

pub row_is_what_it_reads : RowIsWhatItReads
unfolding row_from
row_is_what_it_reads c d head = row_alike c d head (terminator c head) refl

module _ (c d : Chain) where
  -- what lies ahead leads to the same in both where the row reads alike
  ahead_alike :
      (ahead : Option Head) → ReadAlike c d (row_ahead c ahead)
      → (row_ahead d ahead ≡ row_ahead c ahead) × (ahead_after d (row_ahead c ahead) ≡ ahead_after c (row_ahead c ahead))
  ahead_alike (Some head) alike = row_is_what_it_reads c d head alike
  ahead_alike None alike = (refl, refl)

  -- a row that the walk comes to alike in both
  row_at_alike :
      (n : ℕ) → ReadAlike c d (row_at c n) → ahead_of d n ≡ ahead_of c n
      → (row_at d n ≡ row_at c n) × (ahead_of d (suc n) ≡ ahead_of c (suc n))
  unfolding ahead_of
  row_at_alike n alike same =
      let leads = ahead_leads c n in
      let both = ahead_alike (ahead_of c n) (rw leads alike) in
      let row : row_at d n ≡ row_at c n = sym (ahead_leads d n) ∙ ap (row_ahead d) same ∙ both.0 ∙ leads in
      (row, ap (ahead_after d) row ∙ rw leads at both.1)

  come_to_alike : (n : ℕ) → ((row : ℕ) → row < n → ReadAlike c d (row_at c row)) → ahead_of d n ≡ ahead_of c n
  unfolding ahead_of
  come_to_alike zero alike = refl
  come_to_alike (suc n) alike =
      (row_at_alike n (alike n (omega arith)) (come_to_alike n (λ row h. alike row (omega arith)))).1

pub rows_are_what_they_read : RowsAreWhatTheyRead
rows_are_what_they_read c d n alike = (
  come_to_alike c d n alike,
  λ row h. (row_at_alike c d row (alike row h) (come_to_alike c d row (λ r g. alike r (omega arith)))).0,
)
