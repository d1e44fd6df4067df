-- The walk over the rows: what holds with so many drawn, how it begins, goes on and ends.
use Prim.Native.Nat.{ℕ, ◌+◌, ◌-◌, ◌*◌, ◌≤◌, ◌<◌}
use mathlib.Core.Path.{◌≡◌, refl, sym, ◌∙◌, ap}
use mathlib.Core.List.{List}
use native.Mathlib.Numerals.{add-one}
use native.Mathlib.Omega.{arith}
use lib.ListN.{length, take}
use lib.Seq.{take_all}
use borrow.Rule.Slice.PartMut.{put_mid}
use Rattle.lent.specs.Lengths.{picture_bytes}
use Rattle.chain.specs.Chain.{Chain, first, rows, row_at}
use Rattle.chain.specs.Reading.{reads_to, walk_reads, reads_at_132}
use Rattle.chain.specs.Inner.{row_ahead, ahead_of}
use Rattle.chain.specs.declared.Head.{Head}
use Rattle.chain.proofs.Laws.{ahead_leads}
use Rattle.chain.proofs.Reading.{reads_fit}
use Rattle.records.specs.Record.{record_bytes, record_pairs, record_of}
use Rattle.records.specs.Inner.{row_read}
use Rattle.records.specs.declared.RowRead.{RowRead}
use Rattle.picture.specs.Picture.{in_order, record_at, picture_of}
use Rattle.picture.specs.Wild.{first_wild}
use Rattle.picture.specs.Inner.{named}
use Rattle.std.specs.Prelude.{Option, Some, None}
use Rattle.picture.proofs.Records.{record_back, record_put}
use Rattle.picture.proofs.Wild.{Naming, none_passed, one_passed, all_passed}

pub record Walking
    (c : Chain) (picture : List ℕ) (ahead : Option Head) (count : ℕ) (wild_so_far : Option ℕ) (row : ℕ) : Type 0 where
  pub within : row ≤ rows
  pub same : length picture ≡ picture_bytes
  pub follows : ahead ≡ ahead_of c row
  pub counted : count ≡ reads_to c row
  pub naming : Naming c wild_so_far row
  pub drawn : take (row * record_bytes) picture ≡ in_order (record_at c) row

pub walk_begins : (c : Chain) (picture : List ℕ) → length picture ≡ picture_bytes → Walking c picture (Some first) 0 None 0
unfolding ahead_of reads_to in_order
walk_begins c picture same =
    record {
      within = omega arith;
      same = same;
      follows = refl;
      counted = refl;
      naming = none_passed c;
      drawn = refl;
    }

module _
    {c : Chain}
    {picture : List ℕ}
    {ahead : Option Head}
    {count : ℕ}
    {wild_so_far : Option ℕ}
    {row : ℕ}
    (w : Walking c picture ahead count wild_so_far row)
    (more : row < rows) where
  is_row : row_ahead c ahead ≡ row_at c row
  is_row = rw w.follows (ahead_leads c row)

  next_counted : {one : RowRead} → one ≡ row_read c ahead → count + one.reads ≡ reads_to c (row + 1)
  unfolding reads_to
  next_counted e = rw (add-one row, e, is_row, w.counted)

  pub sum_fits : {one : RowRead} → one ≡ row_read c ahead → c.columns ≤ record_pairs → count + one.reads ≤ reads_at_132
  sum_fits {one} e wide = rw (next_counted {one = one} e) (reads_fit c wide (row + 1) (omega arith))

  pub walk_goes_on :
      {one : RowRead} {new : List ℕ} → one ≡ row_read c ahead → new ≡ record_of c (row_ahead c ahead) → length new ≡ record_bytes
      → Walking
      c
      (put_mid (row * record_bytes) (row * record_bytes + record_bytes - row * record_bytes) picture new)
      one.next
      (count + one.reads)
      (named wild_so_far row one.wild)
      (row + 1)
  unfolding ahead_of in_order
  walk_goes_on {one} {new} e r same =
      record {
        within = omega arith;
        same = record_back picture new row w.same more same;
        follows = rw (add-one row, e, is_row);
        counted = next_counted {one = one} e;
        naming = rw (e, is_row) (one_passed c wild_so_far row w.naming more);
        drawn = rw (record_put picture new row w.same more same, w.drawn, r, is_row, add-one row);
      }

pub count_fits :
    {c : Chain} {picture : List ℕ} {ahead : Option Head} {count : ℕ} {wild_so_far : Option ℕ} {row : ℕ}
    → Walking c picture ahead count wild_so_far row → c.columns ≤ record_pairs → count ≤ reads_at_132
count_fits {c} {row = row} w wide = rw w.counted (reads_fit c wide row w.within)

pub walk_ends :
    {c : Chain} {picture : List ℕ} {ahead : Option Head} {count : ℕ} {wild_so_far : Option ℕ} {row : ℕ}
    → Walking c picture ahead count wild_so_far row → rows ≤ row
    → (count ≡ walk_reads c) × ((wild_so_far ≡ first_wild c) × (picture ≡ picture_of c))
walk_ends {c} {picture} {wild_so_far = wild_so_far} {row} w all =
    let last : row ≡ rows = omega (arith, w.within) in
    let whole = sym (take_all (row * record_bytes) picture (omega (arith, w.same))) ∙ w.drawn in
    (w.counted ∙ ap (reads_to c) last, (all_passed c wild_so_far row w.naming all, whole ∙ ap (in_order (record_at c)) last))
