-- A byte that is stored at the place of a cell: the statements of specs/Desk.antt.
use Prim.Native.Nat.{ℕ, zero, suc, ◌+◌, ◌%◌, ◌≤◌, ◌<◌}
use mathlib.Core.Path.{◌≡◌, refl, sym, ap, subst, ◌∙◌}
use mathlib.Core.List.{List, [], ◌∷◌, ◌++◌}
use mathlib.Core.Bool.{Bool, true, false, cond, ◌&&◌}
use native.Mathlib.Omega.{arith}
use native.Mathlib.Nat.{mod-lt, zero-add, add-zero}
use lib.ListN.{length, get_or, set}
use lib.Seq.{get_or-set_same, get_or-set_other}
use lib.Dec.{eqb, ltb}
use borrow.Author.Tests.{eqb-true, eqb-false, ne_eqb, eq-eqb, lt-ltb}
use Rattle.std.specs.Prelude.{Some}
use Rattle.memories.specs.declared.view8088.Seen.TheVariants.{Screen}
use Rattle.chain.specs.Chain.{Chain, Row as ARow, Whole, Torn, Dark as DarkRow, places, byte_at, capacity, first_ff, terminator, ended, link, row_from, next, row_at}
use Rattle.chain.specs.Reading.{from, screen_read}
use Rattle.chain.specs.declared.Head.{Head}
use Rattle.chain.proofs.Alike.{same_place, each_alike, link_alike}
use Rattle.chain.proofs.Reading.{reads_at}
use Rattle.chain.proofs.Searching.{neither}
use Rattle.records.specs.Record.{record_pairs, cells_shown, head_of}
use Rattle.records.proofs.Record.{ff_is_no_cell}
use Rattle.picture.specs.Picture.{record_at}
use Rattle.picture.proofs.Alike.{records_are_what_the_rows_read}
use Rattle.picture.proofs.Sizes.{shown_fit}
use Rattle.readers.specs.Readers.{among}
use Rattle.readers.specs.Stored.{chain_stored}
use Rattle.readers.proofs.Laws.{among_both}
use Rattle.readers.proofs.Stored.{from_leaves, unread_leaves}
use Rattle.explaining.specs.Shown.{HasHead, IsCell, pair_in, Shows}
use Rattle.explaining.specs.Desk.{Told, DeskPromise, link_read, holds_cell, OtherRows}
use Rattle.explaining.proofs.Laws.{Stands, stands}
use Rattle.explaining.proofs.Pairs.{shown_at, row_shows}
use Rattle.explaining.proofs.Shown.{holds_as, shows_what_it_says}

-- the byte at a place of memory after the store
module _ (screen : List ℕ) (place byte : ℕ) (long : length screen ≡ places) (within : place < places) where
  abbrev new : List ℕ
  new = set screen place byte

  byte_after : (at : ℕ) → byte_at new at ≡ cond (eqb (at % places) place) byte (byte_at screen at)
  unfolding byte_at
  byte_after at = go (eqb (at % places) place) refl
    where
      go :
          (b : Bool) → eqb (at % places) place ≡ b
          → get_or (set screen place byte) (at % places) 0 ≡ cond b byte (get_or screen (at % places) 0)
      go true h = rw (eqb-true (at % places) place h) (get_or-set_same screen place byte 0 (omega arith))
      go false h = get_or-set_other screen place (at % places) byte 0 (eqb-false (at % places) place h)

  -- a place is the one that is stored to
  there : (memory : List ℕ) (at : ℕ) → eqb (at % places) place ≡ true → byte_at memory at ≡ byte_at memory place
  there memory at h = sym (same_place memory at) ∙ ap (byte_at memory) (eqb-true (at % places) place h)

  module _ (not_ff : byte ≡ 0xFF → ⊥) (was_not : byte_at screen place ≡ 0xFF → ⊥) where
    -- FF stands where it stood
    same_test : (at : ℕ) → eqb (byte_at new at) 0xFF ≡ eqb (byte_at screen at) 0xFF
    same_test at = rw (byte_after at) (go (eqb (at % places) place) refl)
      where
        go :
            (b : Bool) → eqb (at % places) place ≡ b
            → eqb (cond b byte (byte_at screen at)) 0xFF ≡ eqb (byte_at screen at) 0xFF
        go true h = rw (ne_eqb byte 0xFF not_ff, there screen at h, ne_eqb (byte_at screen place) 0xFF was_not)
        go false h = refl

    -- so a search for it ends where it ended
    search_same : (start cells bytes : ℕ) → first_ff new start cells bytes ≡ first_ff screen start cells bytes
    unfolding first_ff
    search_same start cells zero = refl
    search_same start cells (suc bytes) = rw (same_test (start + cells), search_same start (cells + 1) bytes)

-- a stretch of places in two parts
from_split : (place a b : ℕ) → from place (a + b) ≡ from place a ++ from (place + a) b
unfolding from
from_split place zero b = rw (zero-add b, add-zero place)
from_split place (suc a) b =
    let one : suc a + b ≡ suc (a + b) = omega arith in
    let on : place + suc a ≡ place + 1 + a = omega arith in
    rw (one, on, from_split (place + 1) a b)

module _ (c : Chain) (place byte : ℕ) (shared : List ℕ) (long : length c.screen ≡ places) (within : place < places) where
  abbrev d : Chain
  d = chain_stored c (Some (Screen place)) byte shared

  module _ (not_ff : byte ≡ 0xFF → ⊥) (was_not : byte_at c.screen place ≡ 0xFF → ⊥) where
    row_same : (head : Head) → row_from d head ≡ row_from c head
    unfolding row_from terminator
    row_same head =
        ap (ended head)
        (search_same c.screen place byte long within not_ff was_not head.start 0 (capacity c.columns head.kind + 1))

    -- a link leads where it led if the place is none of its two
    link_same :
        (at : ℕ) → among place (from (at + 1) 2) ≡ false
        → link d.screen d.attribute at ≡ link c.screen c.attribute at
    link_same at unread =
        let alike = each_alike c.screen d.screen (at + 1) 2 (from_leaves c.screen place byte (at + 1) 2 unread) in
        let high : at + 1 + 1 ≡ at + 2 = omega arith in
        link_alike c d at (rw add-zero at (alike 0 (omega arith))) (ap (λ (b : ℕ). b % 16) (rw high at (alike 1 (omega arith)))) refl

    next_same : (row : ARow) → among place (link_read row) ≡ false → next d row ≡ next c row
    unfolding next link_read
    next_same (Whole head cells) unread =
        rw (link_same (head.start + cells) unread) (row_same (link c.screen c.attribute (head.start + cells)))
    next_same (Torn head) unread = refl
    next_same DarkRow unread = refl

    rows_same : (n : ℕ) → ((ahead : ℕ) → ahead < n → among place (link_read (row_at c ahead)) ≡ false) → row_at d n ≡ row_at c n
    unfolding row_at
    rows_same zero unread = row_same _
    rows_same (suc n) unread =
        ap (next d) (rows_same n (λ ahead h. unread ahead (omega arith))) ∙ next_same (row_at c n) (unread n (omega arith))

    same_cells : (row : ARow) → cells_shown d row ≡ cells_shown c row
    same_cells (Whole head cells) = refl
    same_cells (Torn head) = refl
    same_cells DarkRow = refl

    -- a row shows the byte in those of its cells that the place holds
    module _ (wide : c.columns ≤ record_pairs) (other : ℕ) (same : row_at d other ≡ row_at c other) where
      shows_it : (cell : ℕ) → cell < record_pairs
          → pair_in (record_at d other) cell
          ≡ cond (holds_cell c (row_at c other) cell place) (byte ∷ byte_at c.attribute place % 16 ∷ []) (pair_in (record_at c other) cell)
      shows_it cell under =
          row_shows d other cell wide under
          ∙ ap (λ (row : ARow). shown_at d row cell) same
          ∙ rw (row_shows c other cell wide under, same_cells (row_at c other)) (go (ltb cell (cells_shown c (row_at c other))) (eqb (at % places) place) refl)
        where
          at : ℕ
          at = (head_of (row_at c other)).start + cell

          go : (shown here : Bool) → eqb (at % places) place ≡ here
              → cond shown (byte_at d.screen at ∷ byte_at c.attribute at % 16 ∷ []) (0x20 ∷ 0x0E ∷ [])
              ≡ cond (shown && here) (byte ∷ byte_at c.attribute place % 16 ∷ [])
              (cond shown (byte_at c.screen at ∷ byte_at c.attribute at % 16 ∷ []) (0x20 ∷ 0x0E ∷ []))
          go false here h = refl
          go true true h = rw (byte_after c.screen place byte long within at, h, there c.screen place byte long within c.attribute at h)
          go true false h = rw (byte_after c.screen place byte long within at, h)

-- the place of a cell lies in memory, and holds no FF
module _ (c : Chain) (row column place byte : ℕ) (told : Told c row column place byte) where
  cell : IsCell c row column place told.kind told.led
  cell = holds_as c row column told.one_of_them told.is_cell

  within : place < places
  within = rw cell.at (mod-lt (cell.head.start + column) (omega arith))

  -- the row is the one that its head makes
  own_row : (one : ARow) → Stands c one → HasHead one cell.head → row_from c cell.head ≡ one
  unfolding row_from
  own_row (Whole own cells) s has = rw (← has, s.0)
  own_row (Torn own) s has = rw (← has, s)
  own_row DarkRow s has = absurd has

  head_of_lem : (one : ARow) → HasHead one cell.head → head_of one ≡ cell.head
  head_of_lem (Whole own cells) has = has
  head_of_lem (Torn own) has = has
  head_of_lem DarkRow has = absurd has

  was_not : byte_at c.screen place ≡ 0xFF → ⊥
  was_not is =
      let own = own_row (row_at c row) (stands c row) cell.has in
      ff_is_no_cell c cell.head column (rw own cell.among)
      (sym (same_place c.screen (cell.head.start + column)) ∙ ap (byte_at c.screen) (sym cell.at) ∙ is)

  held : holds_cell c (row_at c row) column place ≡ true
  held =
      rw (lt-ltb column (cells_shown c (row_at c row)) cell.among, head_of_lem (row_at c row) cell.has)
      (eq-eqb ((cell.head.start + column) % places) place (sym cell.at))

pub other_rows : OtherRows
other_rows c row column place byte other shared told unread =
    let same = rows_same c place byte shared told.long (within c row column place byte told) told.not_ff (was_not c row column place byte told) other unread in
    record {
      same_row = same;
      cells =
          shows_it c place byte shared told.long (within c row column place byte told) told.not_ff (was_not c row column place byte told)
          told.fits other same;
    }

-- a row that does not read the place does not read it as a byte of its link
link_unread : (c : Chain) (place : ℕ) (row : ARow) → among place (screen_read c row) ≡ false → among place (link_read row) ≡ false
unfolding screen_read link_read among
link_unread c place (Whole head cells) unread =
    let all : cells + 3 ≡ cells + 1 + 2 = omega arith in
    let on : head.start + (cells + 1) ≡ head.start + cells + 1 = omega arith in
    (neither (among place (from head.start (cells + 1))) (among place (from (head.start + cells + 1) 2))
    (sym (among_both place (from head.start (cells + 1)) (from (head.start + cells + 1) 2))
    ∙ rw (← on, ← from_split head.start (cells + 1) 2, ← all) unread)).1
link_unread c place (Torn head) unread = refl
link_unread c place DarkRow unread = refl

pub desk_promise : DeskPromise
desk_promise c row column place byte shared told unread =
    let too = other_rows c row column place byte row shared told (λ ahead h. link_unread c place (row_at c ahead) (unread ahead h)) in
    let fits = shown_fit c (row_at c row) (reads_at c row) in
    let under : column < record_pairs = omega (arith, (cell c row column place byte told).among, told.fits) in
    let becomes = rw (held c row column place byte told) at (too.cells column under) in
    let showed = subst (Shows c row column) told.is_cell (shows_what_it_says c row column told.fits under) in
    record {
      becomes = becomes;
      changes = λ e. told.differs (head_same (sym becomes ∙ e ∙ showed.0));
      earlier_stay =
          records_are_what_the_rows_read c (chain_stored c (Some (Screen place)) byte shared) row
          (λ ahead h. unread_leaves c (Some (Screen place)) byte shared (row_at c ahead) (unread ahead h));
    }
  where
    head_same : {a b x y : ℕ} → ◌≡◌ {A = List ℕ} (a ∷ x ∷ []) (b ∷ y ∷ []) → a ≡ b
    head_same e = cc
