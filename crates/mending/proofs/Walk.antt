-- The walk that mends: what holds when it comes to a row, how it begins, goes on and ends.
use Prim.Native.Nat.{ℕ, suc, ◌+◌, ◌-◌, ◌*◌, ◌≤◌, ◌<◌}
use mathlib.Core.Path.{◌≡◌, refl, sym, ap, ◌∙◌}
use mathlib.Core.List.{List}
use mathlib.Core.Bool.{Bool, false, not}
use native.Mathlib.Numerals.{add-one}
use native.Mathlib.Omega.{arith}
use lib.ListN.{length, take, drop}
use lib.Seq.{take_all, drop-drop}
use lib.Dec.{ltb}
use borrow.Author.Tests.{lt-ltb, le-ltb}
use borrow.Rule.Slice.PartMut.{mid_of, put_mid}
use Rattle.std.specs.Prelude.{Option}
use Rattle.std.specs.Str.{bytes_eq}
use Rattle.lent.specs.Lengths.{picture_bytes}
use Rattle.chain.specs.Chain.{Chain, rows, row_at}
use Rattle.chain.specs.Inner.{row_ahead, ahead_after, ahead_of}
use Rattle.chain.specs.declared.Head.{Head}
use Rattle.chain.proofs.Laws.{ahead_leads}
use Rattle.chain.proofs.Reading.{reads_at}
use Rattle.records.specs.Inner.{read_of, row_read}
use Rattle.records.specs.declared.RowRead.{RowRead}
use Rattle.records.specs.Record.{record_bytes, record_pairs, record_of}
use Rattle.picture.specs.Picture.{in_order, record_at, record_in}
use Rattle.picture.proofs.Records.{same_records, own_records, record_back, record_put, record_left}
use Rattle.marks.specs.Marks.{marked, marks_to}
use Rattle.marks.proofs.Laws.{none_marked}
use Rattle.mending.specs.Mending.{mended_record, mended, changed, marks_of}
use Rattle.mending.specs.Inner.{InPlaces, RowsNoted}
use Rattle.mending.proofs.Laws.{record_of_lem, unmarked}

-- the row that lies ahead is the walk's
pub read_at_row :
    (c : Chain) (row : ℕ) {ahead : Option Head} → ahead ≡ ahead_of c row → {read : RowRead} → read ≡ row_read c ahead
    → read ≡ read_of c (row_at c row)
read_at_row c row comes e = e ∙ ap (read_of c) (rw comes (ahead_leads c row))

-- it lies in memory
pub read_in_places :
    (c : Chain) (row : ℕ) → c.columns ≤ record_pairs → {read : RowRead} → read ≡ read_of c (row_at c row)
    → read.cells ≤ record_pairs → InPlaces read
read_in_places c row wide e fits =
    record { reads = omega (arith, ap (λ (one : RowRead). one.reads) e, reads_at c row); cells = omega (arith, fits) }

-- and one row more was noted
pub one_noted :
    {K : Type 0} (noted : (row : ℕ) → RowRead → (before after : K) → Type 0) (c : Chain) (f row : ℕ) (before : K) {now after : K}
    → RowsNoted noted c f (row - f) before now → f ≤ row → {read : RowRead} → read ≡ read_of c (row_at c row)
    → noted row read now after → RowsNoted noted c f (row + 1 - f) before after
unfolding RowsNoted
one_noted noted c f row before {now} {after} earlier from e this =
    let one : row + 1 - f ≡ suc (row - f) = omega arith in
    let back : f + (row - f) ≡ row = omega arith in
    rw one (now, (earlier, rw (back, ← e) this))

pub record Mending (c : Chain) (f : ℕ) (old picture : List ℕ) (ahead : Option Head) (marks row : ℕ) : Type 0 where
  pub after : f ≤ row
  pub same : length picture ≡ picture_bytes
  pub comes : ahead ≡ ahead_of c row
  pub told : marks ≡ marks_to (changed old (mended c f old)) row
  pub mended : take (row * record_bytes) picture ≡ in_order (mended_record c f old) row
  pub left : drop (row * record_bytes) picture ≡ drop (row * record_bytes) old

module _ (c : Chain) (f : ℕ) (old : List ℕ) (wide : c.columns ≤ record_pairs) (long : length old ≡ picture_bytes) where
  pub mend_begins : (ahead : Option Head) → f ≤ rows → ahead ≡ ahead_of c f → Mending c f old old ahead 0 f
  mend_begins ahead within comes =
      record {
        after = omega arith;
        same = long;
        comes = comes;
        told = sym (none_marked (changed old (mended c f old)) f (λ row h. unmarked c f old wide long row (omega arith) h));
        mended =
            sym (same_records (mended_record c f old) (record_in old) f (λ row h. rw (lt-ltb row f h)) ∙ own_records old f);
        left = refl;
      }

  module _ {picture : List ℕ} {ahead : Option Head} {marks row : ℕ} (m : Mending c f old picture ahead marks row) (more : row < rows) where
    is_row : row_ahead c ahead ≡ row_at c row
    is_row = rw m.comes (ahead_leads c row)

    from_f : ltb row f ≡ false
    from_f = le-ltb row f m.after

    -- the part that is lent is the record that was kept
    kept :
        mid_of (row * record_bytes) (row * record_bytes + record_bytes - row * record_bytes) picture ≡ record_in old row
    unfolding record_in
    kept =
        let part : row * record_bytes + record_bytes - row * record_bytes ≡ record_bytes = omega arith in
        rw (part, m.left)

    now_marked :
        {new : List ℕ} {differed : Bool} {next : ℕ} → new ≡ record_of c (row_ahead c ahead)
        → differed ≡ not (bytes_eq (mid_of (row * record_bytes) (row * record_bytes + record_bytes - row * record_bytes) picture) new)
        → next ≡ marked marks row differed → next ≡ marks_to (changed old (mended c f old)) (row + 1)
    unfolding marks_to
    now_marked e d n =
        let drawn : record_in (mended c f old) row ≡ record_at c row = record_of_lem c f old wide long row more ∙ rw from_f in
        rw (n, d, e, kept, is_row, add-one row, drawn, m.told)

    pub mend_goes_on :
        {drawn new : List ℕ} {differed : Bool} {next : ℕ} {then : Option Head}
        → let at = row * record_bytes in
        let part = at + record_bytes - at in
        drawn ≡ record_of c (row_ahead c ahead) → length drawn ≡ record_bytes → then ≡ ahead_after c (row_ahead c ahead)
        → (differed ≡ not (bytes_eq (mid_of at part picture) drawn)) × (new ≡ drawn) → next ≡ marked marks row differed
        → Mending c f old (put_mid at part picture new) then next (row + 1)
    unfolding in_order ahead_of
    mend_goes_on {new = new} r size l p n =
        let after : (row + 1) * record_bytes ≡ row * record_bytes + record_bytes = omega arith in
        let same : length new ≡ record_bytes = rw p.1 size in
        record {
          after = omega (arith, m.after);
          same = record_back picture new row m.same more same;
          comes = rw (add-one row, l, is_row);
          told = now_marked r p.0 n;
          mended = rw (record_put picture new row m.same more same, m.mended, add-one row, from_f, p.1, r, is_row);
          left =
              record_left picture new row m.same more same
              ∙ rw (after, ← drop-drop record_bytes (row * record_bytes) picture, m.left)
              (drop-drop record_bytes (row * record_bytes) old);
        }

pub mend_ends :
    {c : Chain} {f : ℕ} {old picture : List ℕ} {ahead : Option Head} {marks row : ℕ} → Mending c f old picture ahead marks row
    → rows ≤ row → row ≤ rows → (marks ≡ marks_of old (mended c f old)) × (picture ≡ mended c f old)
mend_ends {c} {f} {old} {picture} {row = row} m all within =
    let last : row ≡ rows = omega arith in
    let whole = sym (take_all (row * record_bytes) picture (omega (arith, m.same))) ∙ m.mended in
    (m.told ∙ ap (marks_to (changed old (mended c f old))) last, whole ∙ ap (in_order (mended_record c f old)) last)

-- a picture of which no row is mended
pub none_mended :
    (c : Chain) (old : List ℕ) → length old ≡ picture_bytes → mended c rows old ≡ old
none_mended c old long =
    same_records (mended_record c rows old) (record_in old) rows (λ row h. rw (lt-ltb row rows h)) ∙ own_records old rows
    ∙ take_all (rows * record_bytes) old (omega arith)
