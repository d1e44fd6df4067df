-- A row's number is written to all that it reads: places from a start on, past the end of memory too, in either half of
-- the index.
use Prim.Native.Nat.{ℕ, ◌+◌, ◌-◌, ◌%◌, ◌≤◌, ◌<◌, min}
use mathlib.Core.Path.{◌≡◌, refl, sym, ◌∙◌}
use mathlib.Core.List.{List, map}
use mathlib.Core.Bool.{Bool, true, false, ◌&&◌, ◌||◌}
use native.Mathlib.Omega.{arith}
use lib.ListN.{length}
use lib.Dec.{ltb, leb}
use borrow.Author.Tests.{lt-ltb, le-ltb, ltb-true, ltb-false, le-leb, lt-leb, leb-true, leb-false}
use borrow.Rule.Slice.PartMut.{mid_of, put_mid}
use Rattle.std.specs.Prelude.{is_some}
use Rattle.std.specs.Int.{from_bool}
use Rattle.lent.specs.Lengths.{screen_bytes, index_bytes}
use Rattle.chain.specs.Chain.{places}
use Rattle.chain.specs.Reading.{from}
use Rattle.records.specs.declared.RowRead.{RowRead}
use Rattle.readers.specs.Readers.{among}
use Rattle.readers.proofs.Laws.{offset, among-from, among_both}
use Rattle.index.specs.Inner.{Changed, read_at}
use Rattle.index.proofs.Changes.{inside, all_changed, same_changed, both_changed, part_changed}

-- so many places from a start on are those up to the end of memory, and those from place 0 on
two_parts :
    (start bytes straight at : ℕ) → start < places → bytes ≤ places → straight ≡ min bytes (places - start) → at < places
    → (inside start (start + straight) at && true || inside 0 (bytes - straight) at && true) ≡ among at (from start bytes)
two_parts start bytes straight at begins few is lies =
    go (leb start at) refl (ltb at (start + straight)) refl (ltb at (bytes - straight)) refl
    ∙ sym (among-from at start lies begins bytes few)
  where
    from_0 : leb 0 at ≡ true
    from_0 = le-leb 0 at (omega arith)

    go :
        (a : Bool) → leb start at ≡ a → (b : Bool) → ltb at (start + straight) ≡ b → (d : Bool) → ltb at (bytes - straight) ≡ d
        → (inside start (start + straight) at && true || inside 0 (bytes - straight) at && true) ≡ ltb (offset at start) bytes
    go true h true g d k =
        let more = leb-true start at h in
        let less = ltb-true at (start + straight) g in
        rw (h, g) (sym (lt-ltb (offset at start) bytes (omega (arith, is))))
    go true h false g true k =
        let more = leb-true start at h in
        let past = ltb-false at (start + straight) g in
        let over = ltb-true at (bytes - straight) k in
        absurd (omega (arith, is))
    go true h false g false k =
        let more = leb-true start at h in
        let past = ltb-false at (start + straight) g in
        rw (h, g, k, from_0) (sym (le-ltb (offset at start) bytes (omega (arith, is))))
    go false h b g true k =
        let less = leb-false start at h in
        let over = ltb-true at (bytes - straight) k in
        rw (h, k, from_0) (sym (lt-ltb (offset at start) bytes (omega (arith, is))))
    go false h b g false k =
        let less = leb-false start at h in
        let past = ltb-false at (bytes - straight) k in
        rw (h, k, from_0) (sym (le-ltb (offset at start) bytes (omega (arith, is))))

right : (b : Bool) → (b || false) ≡ b
right true = refl
right false = refl

module _ {g : ℕ → ℕ} (twice : (x : ℕ) → g (g x) ≡ g x) where
  pub places_changed :
      (start bytes : ℕ) (l : List ℕ) {straight : ℕ} {m n : List ℕ} → length l ≡ places → start < places → bytes ≤ places
      → straight ≡ min bytes (places - start)
      → let k = start + straight - start in
      let rest = bytes - straight - 0 in
      m ≡ map g (mid_of start k l) → n ≡ map g (mid_of 0 rest (put_mid start k l m))
      → Changed (λ place. among place (from start bytes)) g l (put_mid 0 rest (put_mid start k l m) n)
  places_changed start bytes l {straight} {m} {n} long begins few is first second =
      let one = part_changed start (start + straight) l (omega arith) (omega (arith, is)) (all_changed _ first) in
      let other =
      part_changed 0 (bytes - straight) (put_mid start (start + straight - start) l m) (omega arith) (omega (arith, is, one.same))
      (all_changed _ second) in
      same_changed (λ at h. two_parts start bytes straight at begins few is (omega (arith, long))) (both_changed twice one other)

  -- the places that a row reads, in the half of screen memory and in that of attribute memory
  pub row_changed :
      (read : RowRead) (l : List ℕ) {low links : ℕ} {a b c : List ℕ} → length l ≡ index_bytes
      → low ≡ (read.head.start + (read.cells + 1)) % places → links ≡ from_bool (is_some read.next)
      → let start = read.head.start in
      let cells = read.cells in
      Changed (λ place. among place (from start read.reads)) g (mid_of 0 4096 l) a
      → Changed (λ place. among place (from start cells)) g (mid_of 4096 4096 (put_mid 0 4096 l a)) b
      → Changed (λ place. among place (from low links)) g b c
      → Changed (read_at read) g l (put_mid 4096 4096 (put_mid 0 4096 l a) c)
  row_changed read l {low} {links} {a} long at_low is screen beside linked =
      let one = part_changed 0 4096 l (omega arith) (omega arith) screen in
      let other =
      part_changed 4096 8192 (put_mid 0 4096 l a) (omega arith) (omega (arith, one.same)) (both_changed twice beside linked) in
      same_changed (λ at h. go at (omega arith) (ltb at screen_bytes) refl) (both_changed twice one other)
    where
      go :
          (at : ℕ) → at < index_bytes → (t : Bool) → ltb at screen_bytes ≡ t
          → (inside 0 4096 at && among (at - 0) (from read.head.start read.reads)
          || inside 4096 8192 at
          && (among (at - 4096) (from read.head.start read.cells)
          || among (at - 4096) (from low links)))
          ≡ read_at read at
      go at under true e =
          let less = ltb-true at screen_bytes e in
          let whole : at - 0 ≡ at = omega arith in
          rw (e, lt-leb 4096 at less, le-leb 0 at (omega arith), whole) (right (among at (from read.head.start read.reads)))
      go at under false e =
          let more = ltb-false at screen_bytes e in
          let one : read.head.start + (read.cells + 1) ≡ read.head.start + read.cells + 1 = omega arith in
          rw (e, le-leb 4096 at more, lt-ltb at 8192 under, among_both (at - 4096) (from read.head.start read.cells), at_low, one, is, le-leb 0 at (omega arith))
