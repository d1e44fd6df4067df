-- What a store does to a true picture: the statements of specs/True.antt.
use Prim.Native.Nat.{ℕ, zero, suc, ◌+◌, ◌%◌, ◌≤◌, ◌<◌}
use mathlib.Core.Path.{◌≡◌, refl, sym, ap, ◌∙◌}
use mathlib.Core.List.{List, [], ◌∷◌}
use mathlib.Core.Bool.{Bool, true, false, cond}
use native.Mathlib.Omega.{arith}
use lib.ListN.{length, get_or, set, length-set}
use lib.Seq.{set-get_or}
use lib.Dec.{ltb}
use borrow.Author.Tests.{ltb-true}
use Rattle.std.specs.Prelude.{Option, Some, None}
use Rattle.lent.specs.Answer.{byte_read}
use Rattle.lent.specs.Refusals.{accepted, refuses}
use Rattle.lent.specs.declared.ByteRead.{ByteRead}
use Rattle.machine.specs.declared.Machine.{Machine}
use Rattle.memories.specs.View8088.{seen_8088, refusal_8088, byte_seen, store_seen}
use Rattle.memories.specs.declared.view8088.Seen.{Seen}
use Rattle.memories.specs.declared.view8088.Seen.TheVariants.{Shared, Screen, Attribute}
use Rattle.chain.specs.Chain.{Chain, chain, Row, Whole, Torn, Dark, places, byte_at, capacity, terminator, link, row_from, next, rows, row_at}
use Rattle.chain.specs.Reading.{screen_read}
use Rattle.chain.specs.Alike.{read_ahead_of_high, low_four, ReadAlike}
use Rattle.records.specs.Record.{record_pairs, cell_pairs, record_of}
use Rattle.picture.specs.Picture.{record_at, picture_of, record_in}
use Rattle.picture.specs.Draw.{chain_of}
use Rattle.picture.proofs.Laws.{columns_fit}
use Rattle.picture.proofs.Alike.{records_are_what_the_rows_read}
use Rattle.picture.proofs.Records.{same_records, record_in_order}
use Rattle.picture.proofs.Sizes.{records_sized, picture_sized}
use Rattle.readers.specs.Readers.{among, first_reader}
use Rattle.readers.specs.Stored.{chain_stored}
use Rattle.readers.proofs.Readers.{is_first}
use Rattle.readers.proofs.Stored.{Leaves, from_leaves, unread_leaves}
use Rattle.mending.specs.Mending.{mended_record, mended, marks_of}
use Rattle.mending.specs.Store.{lengths_with_picture, StoredWithPicture, stored_with_picture, refusal_with_picture, store_with_picture}
use Rattle.mending.specs.True.{TruePicture, KeepsTrue, MarksFresh, SameByteMarksNothing, UpperBitsMarkNothing, TopBitsMarkNothing}
use Rattle.mending.proofs.Outcome.{unchanged, accepts, refused_outcome, mended_outcome}

module _ (c : Chain) (seen : Option Seen) (byte : ℕ) (shared : List ℕ) (wide : c.columns ≤ record_pairs) where
  abbrev after : Chain
  after = chain_stored c seen byte shared

  -- a record ahead of the first reader is the same in the fresh pictures before and after
  ahead_same : (row : ℕ) → row < first_reader c seen → record_at after row ≡ record_at c row
  ahead_same row ahead =
      let unread = (is_first c seen).1.1 in
      records_are_what_the_rows_read c after (first_reader c seen)
      (λ r h. unread_leaves c seen byte shared (row_at c r) (unread r h)) row ahead

  mended_true : mended after (first_reader c seen) (picture_of c) ≡ picture_of after
  mended_true =
      same_records (mended_record after (first_reader c seen) (picture_of c)) (record_at after) rows
      (λ row h. go row h (ltb row (first_reader c seen)) refl)
    where
      go :
          (row : ℕ) → row < rows → (b : Bool) → ltb row (first_reader c seen) ≡ b
          → cond b (record_in (picture_of c) row) (record_at after row) ≡ record_at after row
      go row h true e =
          record_in_order (record_at c) rows row h (λ r g. records_sized c r wide)
          ∙ sym (ahead_same row (ltb-true row (first_reader c seen) e))
      go row h false e = refl

-- where the byte that is stored stands there already, the chain stays
same_byte :
    (c : Chain) (seen : Option Seen) (byte : ℕ) (shared : List ℕ) → byte_seen seen shared c.screen c.attribute ≡ byte
    → chain_stored c seen byte shared ≡ c
same_byte c (Some (Shared place)) byte shared stands = refl
same_byte c (Some (Screen place)) byte shared stands = rw (← stands, set-get_or c.screen place 0)
same_byte c (Some (Attribute place)) byte shared stands = rw (← stands, set-get_or c.attribute place 0)
same_byte c None byte shared stands = refl

-- attributes that are the same modulo 16 give the same picture
module _ (c : Chain) (attribute : List ℕ) (alike : (p : ℕ) → byte_at attribute p % 16 ≡ byte_at c.attribute p % 16) where
  abbrev other : Chain
  other = chain c.columns c.screen attribute

  same_link : (place : ℕ) → link c.screen attribute place ≡ link c.screen c.attribute place
  unfolding link
  same_link place =
      let kind : byte_at attribute (place + 1) % 8 ≡ byte_at c.attribute (place + 1) % 8 = omega (arith, alike (place + 1)) in
      rw kind

  same_next : (row : Row) → next other row ≡ next c row
  unfolding next row_from terminator
  same_next (Whole head cells) = rw (same_link (head.start + cells))
  same_next (Torn head) = refl
  same_next Dark = refl

  same_rows : (row : ℕ) → row_at other row ≡ row_at c row
  unfolding row_at row_from terminator
  same_rows zero = refl
  same_rows (suc row) = ap (next other) (same_rows row) ∙ same_next (row_at c row)

  same_cells : (start n : ℕ) → cell_pairs c.screen attribute start n ≡ cell_pairs c.screen c.attribute start n
  unfolding cell_pairs
  same_cells start zero = refl
  same_cells start (suc n) = rw (same_cells start n, alike (start + n))

  same_record : (row : Row) → record_of other row ≡ record_of c row
  unfolding record_of cell_pairs
  same_record (Whole head cells) = rw (same_cells head.start cells)
  same_record (Torn head) = rw (same_cells head.start (capacity c.columns head.kind))
  same_record Dark = refl

  same_picture : picture_of other ≡ picture_of c
  same_picture =
      same_records (record_at other) (record_at c) rows
      (λ row h. ap (record_of other) (same_rows row) ∙ same_record (row_at c row))

-- a byte stored that is the same modulo 16 leaves every byte so
same_low :
    (memory : List ℕ) (place byte : ℕ) → byte % 16 ≡ get_or memory place 0 % 16
    → (p : ℕ) → get_or (set memory place byte) p 0 % 16 ≡ get_or memory p 0 % 16
same_low [] place byte e p = refl
same_low (x ∷ memory) zero byte e zero = e
same_low (x ∷ memory) zero byte e (suc p) = refl
same_low (x ∷ memory) (suc place) byte e zero = refl
same_low (x ∷ memory) (suc place) byte e (suc p) = same_low memory place byte e p

-- a byte of screen memory that rows read only as the high byte of their link, and that stays so modulo 16
module _ (c : Chain) (place byte : ℕ) (low : byte % 16 ≡ get_or c.screen place 0 % 16) where
  abbrev new_screen : List ℕ
  new_screen = set c.screen place byte

  abbrev new_chain : Chain
  new_chain = chain c.columns new_screen c.attribute

  row_reads_alike : (row : Row) → among place (read_ahead_of_high c row) ≡ false → ReadAlike c new_chain row
  unfolding byte_at read_ahead_of_high low_four screen_read
  row_reads_alike row only = record { columns = refl; screen = ahead row only; high = high row; attribute = refl }
    where
      ahead : (one : Row) → Leaves c.screen place byte (read_ahead_of_high c one)
      ahead (Whole head cells) = from_leaves c.screen place byte head.start (cells + 2)
      ahead (Torn head) = from_leaves c.screen place byte head.start (capacity c.columns head.kind + 1)
      ahead Dark = λ h. refl

      high : (one : Row) → low_four c.screen one ≡ low_four new_screen one
      high (Whole head cells) = sym (same_low c.screen place byte low ((head.start + cells + 2) % places))
      high (Torn head) = refl
      high Dark = refl

  same_picture_but_top :
      ((row : ℕ) → row < rows → among place (read_ahead_of_high c (row_at c row)) ≡ false) → picture_of new_chain ≡ picture_of c
  same_picture_but_top only =
      same_records (record_at new_chain) (record_at c) rows
      (records_are_what_the_rows_read c new_chain rows (λ row h. row_reads_alike (row_at c row) (only row h)))

module _
    (m : Machine)
    (shared screen attribute picture : List ℕ)
    (address byte : ℕ)
    (true_before : TruePicture m shared screen attribute picture) where
  abbrev before : Chain
  before = chain_of m screen attribute

  abbrev after_store : Chain
  after_store = chain_stored before (seen_8088 address) byte shared

  abbrev refused : Bool
  refused = refuses (refusal_with_picture m shared screen attribute picture address)

  -- what an accepted store leaves of a true picture: the memories with the byte stored, and their fresh picture
  abbrev Left : StoredWithPicture → Type 0
  Left left =
      let stored = store_seen (seen_8088 address) shared screen attribute byte in
      left
      ≡ stored_with_picture (record { refusal = accepted; marks = marks_of (picture_of before) (picture_of after_store) })
      stored.shared stored.screen stored.attribute (picture_of after_store)

  fresh_after : refused ≡ false → Left (store_with_picture m shared screen attribute picture address byte)
  fresh_after h =
      rw (
        mended_outcome m shared screen attribute picture address byte h,
        true_before.fresh,
        mended_true before (seen_8088 address) byte shared (columns_fit m),
      )

  -- the lengths stay
  lengths_after :
      (seen : Option Seen) (n : ℕ)
      → let left = store_seen seen shared screen attribute byte in
      lengths_with_picture (length left.shared) (length left.screen) (length left.attribute) n
      ≡ lengths_with_picture (length shared) (length screen) (length attribute) n
  lengths_after (Some (Shared place)) n = rw (length-set shared place byte)
  lengths_after (Some (Screen place)) n = rw (length-set screen place byte)
  lengths_after (Some (Attribute place)) n = rw (length-set attribute place byte)
  lengths_after None n = refl

  abbrev TrueAfter : StoredWithPicture → Type 0
  TrueAfter left = TruePicture m left.shared left.screen left.attribute left.picture

  stays_true : (b : Bool) → refused ≡ b → TrueAfter (store_with_picture m shared screen attribute picture address byte)
  stays_true true h = rw (refused_outcome m shared screen attribute picture address byte h) true_before
  stays_true false h =
      let long = picture_sized after_store (columns_fit m) in
      let as_long = (accepts m shared screen attribute picture address byte h).0 in
      rw (fresh_after h)
      (record {
        lengths = rw (long, ← as_long, lengths_after (seen_8088 address) (length picture)) true_before.lengths;
        fresh = refl;
      })

  abbrev MarksAfter : StoredWithPicture → Type 0
  MarksAfter left =
      left.answer.marks ≡ marks_of (picture_of before) (picture_of (chain_of m left.screen left.attribute))

  marks : (b : Bool) → refused ≡ b → MarksAfter (store_with_picture m shared screen attribute picture address byte)
  marks true h = rw (refused_outcome m shared screen attribute picture address byte h, unchanged (picture_of before))
  marks false h = rw (fresh_after h)

  -- where the fresh picture stays, nothing is marked
  none_marked_where :
      (b : Bool) → refused ≡ b
      → (refuses (refusal_8088 m shared screen attribute address) ≡ false → picture_of after_store ≡ picture_of before)
      → (store_with_picture m shared screen attribute picture address byte).answer.marks ≡ 0
  none_marked_where true h same = rw (refused_outcome m shared screen attribute picture address byte h)
  none_marked_where false h same =
      rw (fresh_after h, same (accepts m shared screen attribute picture address byte h).1) (unchanged (picture_of before))

pub keeps_true : KeepsTrue
keeps_true m shared screen attribute picture address byte t =
    stays_true m shared screen attribute picture address byte t (refused m shared screen attribute picture address byte t) refl

pub marks_fresh : MarksFresh
marks_fresh m shared screen attribute picture address byte t =
    marks m shared screen attribute picture address byte t (refused m shared screen attribute picture address byte t) refl

pub same_byte_marks_nothing : SameByteMarksNothing
same_byte_marks_nothing m shared screen attribute picture address byte t same =
    none_marked_where m shared screen attribute picture address byte t (refused m shared screen attribute picture address byte t) refl
    (λ goes_on.
    let stands : byte_read (byte_seen (seen_8088 address) shared screen attribute) ≡ byte_read byte = rw goes_on at same in
    ap picture_of
    (same_byte (chain_of m screen attribute) (seen_8088 address) byte shared (ap (λ (r : ByteRead). r.byte) stands)))

pub upper_bits_mark_nothing : UpperBitsMarkNothing
unfolding byte_at
upper_bits_mark_nothing m shared screen attribute picture address byte place t seen low =
    none_marked_where m shared screen attribute picture address byte t (refused m shared screen attribute picture address byte t) refl
    (λ _. rw seen
    (same_picture (chain_of m screen attribute) (set attribute place byte) (λ p. same_low attribute place byte low (p % places))))

pub top_bits_mark_nothing : TopBitsMarkNothing
top_bits_mark_nothing m shared screen attribute picture address byte place t seen low only =
    none_marked_where m shared screen attribute picture address byte t (refused m shared screen attribute picture address byte t) refl
    (λ _. rw seen (same_picture_but_top (chain_of m screen attribute) place byte low only))
