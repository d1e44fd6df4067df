-- A store and what the rows read: the statements of specs/Stored.antt.
use Prim.Native.Nat.{ℕ, zero, suc, ◌+◌, ◌%◌, ◌<◌}
use mathlib.Core.Path.{◌≡◌, refl, sym, ap, ◌∙◌, subst}
use mathlib.Core.List.{List, ◌++◌, map-append}
use mathlib.Core.Bool.{Bool, true, false, true≢false}
use native.Mathlib.Nat.{mod-mod, add_assoc}
use native.Mathlib.Omega.{arith}
use lib.ListN.{get_or, set}
use lib.Seq.{get_or-set_other, set-set, set-get_or}
use lib.Dec.{eqb}
use borrow.Author.Tests.{eqb-false}
use Rattle.std.specs.Prelude.{Option, Some, None}
use Rattle.memories.specs.declared.view8088.Seen.{Seen}
use Rattle.memories.specs.declared.view8088.Seen.TheVariants.{Shared, Screen, Attribute}
use Rattle.chain.specs.Chain.{Chain, Row, Whole, Torn, Dark, places, byte_at, capacity, row_at}
use Rattle.chain.specs.Reading.{from, screen_read, attribute_read}
use Rattle.chain.specs.Alike.{bytes_at, read_ahead_of_high, low_four}
use Rattle.chain.proofs.Searching.{neither}
use Rattle.chain.proofs.Alike.{each_alike, shorter_alike, rows_are_what_they_read}
use Rattle.readers.specs.Readers.{among, row_reads, first_reader}
use Rattle.readers.specs.Stored.{chain_stored, UnreadLeaves, EitherWalk}
use Rattle.readers.proofs.Readers.{is_first}
use Rattle.readers.proofs.Laws.{among_both}

module _ (memory : List ℕ) (place byte : ℕ) where
  -- a memory reads alike at these places where the place that is stored to is none of them
  abbrev pub Leaves : List ℕ → Type 0
  Leaves places = among place places ≡ false → bytes_at memory places ≡ bytes_at (set memory place byte) places

  pub from_leaves : (at n : ℕ) → Leaves (from at n)
  unfolding from among byte_at
  from_leaves at zero = λ unread. refl
  from_leaves at (suc n) = go (eqb place (at % places)) refl (from_leaves (at + 1) n)
    where
      go : (b : Bool) → eqb place (at % places) ≡ b → Leaves (from (at + 1) n) → Leaves (from at (suc n))
      go true h later unread = absurd (true≢false (rw h at unread))
      go false h later unread =
          let other : (at % places % places ≡ place → ⊥) = λ e. eqb-false place (at % places) h (sym e ∙ mod-mod at places) in
          rw (get_or-set_other memory place (at % places % places) byte 0 other, later (rw h at unread))

  both_leave : (first second : List ℕ) → Leaves first → Leaves second → Leaves (first ++ second)
  both_leave first second f s unread =
      let none = neither (among place first) (among place second) (sym (among_both place first second) ∙ unread) in
      simp map-append (rw (f none.0, s none.1))

-- the byte that stands where it is stored
abbrev stood : Option Seen → Chain → ℕ
stood (Some (Shared place)) c = 0
stood (Some (Screen place)) c = get_or c.screen place 0
stood (Some (Attribute place)) c = get_or c.attribute place 0
stood None c = 0

pub unread_leaves : UnreadLeaves
unfolding read_ahead_of_high low_four screen_read attribute_read
unread_leaves c (Some (Shared place)) byte shared row unread = record { columns = refl; screen = refl; high = refl; attribute = refl }
unread_leaves c (Some (Screen place)) byte shared row unread =
    let both = go row unread in
    record { columns = refl; screen = both.0; high = both.1; attribute = refl }
  where
    new : List ℕ
    new = set c.screen place byte

    go :
        (row : Row) → among place (screen_read c row) ≡ false
        → (bytes_at c.screen (read_ahead_of_high c row) ≡ bytes_at new (read_ahead_of_high c row))
        × (low_four c.screen row ≡ low_four new row)
    go (Whole head cells) h =
        let start = head.start in
        let all = from_leaves c.screen place byte start (cells + 3) h in
        let last : cells + 3 ≡ suc (cells + 2) = omega arith in
        let high = each_alike c.screen new start (cells + 3) all (cells + 2) (omega arith) in
        (shorter_alike c.screen new start (cells + 2) (rw last at all), rw (add_assoc start cells 2, high))
    go (Torn head) h = (from_leaves c.screen place byte head.start (capacity c.columns head.kind + 1) h, refl)
    go Dark h = (refl, refl)
unread_leaves c (Some (Attribute place)) byte shared row unread =
    record { columns = refl; screen = refl; high = refl; attribute = go row unread }
  where
    go : (row : Row) → Leaves c.attribute place byte (attribute_read c row)
    go (Whole head cells) =
        both_leave c.attribute place byte (from head.start cells) (from (head.start + cells + 1) 1)
        (from_leaves c.attribute place byte head.start cells)
        (from_leaves c.attribute place byte (head.start + cells + 1) 1)
    go (Torn head) = from_leaves c.attribute place byte head.start (capacity c.columns head.kind)
    go Dark = λ h. refl
unread_leaves c None byte shared row unread = record { columns = refl; screen = refl; high = refl; attribute = refl }

module _ (c : Chain) (seen : Option Seen) (byte : ℕ) (shared : List ℕ) where
  abbrev after : Chain
  after = chain_stored c seen byte shared

  -- which places a row reads is told by the row and the column setting alone
  same_places : (one : Option Seen) (row : Row) → row_reads after one row ≡ row_reads c one row
  unfolding screen_read attribute_read
  same_places one (Whole head cells) = refl
  same_places one (Torn head) = refl
  same_places one Dark = refl

  -- so a row ahead of f reads after the store what it read before
  pub reads_alike :
      (one : Option Seen) (row : ℕ) → row < first_reader c seen → row_reads after one (row_at after row) ≡ row_reads c one (row_at c row)
  reads_alike one row ahead =
      let unread = (is_first c seen).1.1 in
      let same = (rows_are_what_they_read c after (first_reader c seen)
      (λ r h. unread_leaves c seen byte shared (row_at c r) (unread r h))).1 row ahead in
      same_places one (row_at after row) ∙ ap (row_reads c one) same

  -- and no row ahead of f reads the byte after the store
  no_earlier : first_reader after seen < first_reader c seen → ⊥
  no_earlier less =
      let f = first_reader after seen in
      let reads = (is_first after seen).1.0 (omega (arith, (is_first c seen).0)) in
      true≢false (sym reads ∙ reads_alike seen f less ∙ (is_first c seen).1.1 f less)

-- a store of the byte that stood there gives the chain back
put_back :
    (c : Chain) (seen : Option Seen) (byte : ℕ) (shared : List ℕ)
    → chain_stored (chain_stored c seen byte shared) seen (stood seen c) shared ≡ c
put_back c (Some (Shared place)) byte shared = refl
put_back c (Some (Screen place)) byte shared = rw (set-set c.screen place byte (get_or c.screen place 0), set-get_or c.screen place 0)
put_back c (Some (Attribute place)) byte shared =
    rw (set-set c.attribute place byte (get_or c.attribute place 0), set-get_or c.attribute place 0)
put_back c None byte shared = refl

pub either_walk : EitherWalk
either_walk c seen byte shared =
    let d = chain_stored c seen byte shared in
    let back : (first_reader c seen < first_reader d seen → ⊥) =
    subst (λ (k : Chain). first_reader k seen < first_reader d seen → ⊥) (put_back c seen byte shared)
    (no_earlier d seen (stood seen c) shared) in
    omega (arith, back, no_earlier c seen byte shared)
