-- The walk that writes the rows' numbers: what a row that was read reads, what holds when the walk comes to a row, how it
-- begins, goes on and ends.
use Prim.Native.Nat.{ℕ, zero, suc, ◌+◌, ◌-◌, ◌≤◌, ◌<◌}
use mathlib.Core.Path.{◌≡◌, refl, sym, ap, ◌∙◌}
use mathlib.Core.List.{List, ◌++◌, append-nil}
use mathlib.Core.Bool.{true, cond}
use native.Mathlib.Numerals.{add-one}
use native.Mathlib.Omega.{arith}
use lib.ListN.{length, get_or, replicate, length-replicate, get_or-replicate}
use lib.Dec.{ltb}
use borrow.Author.Tests.{le-ltb}
use Rattle.std.specs.Prelude.{Option, Some, None, is_none}
use Rattle.lent.specs.Lengths.{index_bytes}
use Rattle.chain.specs.Chain.{Chain, Row, Whole, Torn, Dark, capacity, first, next, rows, row_at}
use Rattle.chain.specs.Reading.{from, screen_read, attribute_read, reads}
use Rattle.chain.specs.Inner.{row_ahead, ahead_of}
use Rattle.chain.specs.declared.Head.{Head}
use Rattle.chain.proofs.Laws.{ahead_leads}
use Rattle.records.specs.Inner.{read_of, row_read}
use Rattle.records.specs.declared.RowRead.{RowRead}
use Rattle.readers.specs.Readers.{reads_byte, row_reads}
use Rattle.readers.proofs.Laws.{from_over, none_read}
use Rattle.index.specs.Index.{no_row, seen_at, entry_of, entries, index_of}
use Rattle.index.specs.Store.{renewed_entry}
use Rattle.index.specs.Inner.{forgotten, lower, number_put, numbered_to, Changed, read_at, RowsNumbered}
use Rattle.mending.specs.Inner.{RowsNoted}
use Rattle.mending.proofs.Walk.{read_at_row}
use Rattle.index.proofs.Index.{any_default, are_entries}
use Rattle.index.proofs.Numbers.{numbers_so_far}

-- what a row that was read reads is what the row reads
reads_as_row : (c : Chain) (row : Row) (at : ℕ) → read_at (read_of c row) at ≡ row_reads c (seen_at at) row
unfolding screen_read attribute_read reads from
reads_as_row c (Whole head cells) at =
    ap (λ (low : List ℕ). reads_byte (seen_at at) (from head.start (cells + 3)) (from head.start cells ++ low))
    (from_over (head.start + cells + 1))
reads_as_row c (Torn head) at =
    ap (reads_byte (seen_at at) (from head.start (capacity c.columns head.kind + 1)))
    (append-nil (from head.start (capacity c.columns head.kind)))
reads_as_row c Dark at = refl

pub no_rows : (c : Chain) (f from : ℕ) (l : List ℕ) → RowsNumbered c f from from l l
no_rows c f from l = record { same = refl; each = λ at entry h e. e }

pub one_row :
    {c : Chain} {f from row : ℕ} {l m n : List ℕ} → RowsNumbered c f from row l m → length l ≡ index_bytes
    → {read : RowRead} → read ≡ read_of c (row_at c row) → {g : ℕ → ℕ} → ((x : ℕ) → g x ≡ number_put f row x)
    → Changed (read_at read) g m n → RowsNumbered c f from (row + 1) l n
unfolding numbered_to
one_row {c} {f} {from} {row} {l} {m} {n} before long {read} e {g} same now =
    record { same = now.same ∙ before.same; each = step }
  where
    step :
        (at entry : ℕ) → at < index_bytes → get_or l at 0 ≡ numbered_to c f at from entry
        → get_or n at 0 ≡ numbered_to c f at (row + 1) entry
    step at entry h is =
        let was = before.each at entry h is in
        let reads : read_at read at ≡ row_reads c (seen_at at) (row_at c row) =
        ap (λ (one : RowRead). read_at one at) e ∙ reads_as_row c (row_at c row) at in
        now.each at (omega (arith, before.same)) ∙ rw (reads, same (get_or m at 0), was, add-one row)

-- the rows that are passed, up to one
pub record Passing (c : Chain) (f : ℕ) (old index : List ℕ) (ahead : Option Head) (row : ℕ) : Type 0 where
  pub comes : ahead ≡ ahead_of c row
  pub numbers : RowsNumbered c f 0 row old index

pub passing_begins : (c : Chain) (f : ℕ) (old : List ℕ) → Passing c f old old (Some first) 0
unfolding ahead_of
passing_begins c f old = record { comes = refl; numbers = no_rows c f 0 old }

pub passing_goes_on :
    {c : Chain} {f row : ℕ} {old index new : List ℕ} {ahead : Option Head} → Passing c f old index ahead row
    → length old ≡ index_bytes → {read : RowRead} → read ≡ row_read c ahead
    → Changed (read_at read) (number_put f row) index new → Passing c f old new read.next (row + 1)
unfolding ahead_of
passing_goes_on {c} {row = row} p long e now =
    let is = read_at_row c row p.comes e in
    record { comes = rw (add-one row, is); numbers = one_row p.numbers long is (λ x. refl) now }

-- a dark row has no number to write, and leads to a dark one
stays_dark :
    (c : Chain) (f n row : ℕ) → row_at c row ≡ Dark → ahead_of c row ≡ None
    → (ahead_of c (row + n) ≡ None) × ((at entry : ℕ) → numbered_to c f at (row + n) entry ≡ numbered_to c f at row entry)
unfolding ahead_of row_at next numbered_to screen_read attribute_read
stays_dark c f zero row dark ahead =
    let here : row + 0 ≡ row = omega arith in
    rw here (ahead, λ at entry. refl)
stays_dark c f (suc n) row dark ahead =
    let on : suc row + n ≡ row + suc n = omega arith in
    let later = stays_dark c f n (suc row) (rw dark) (rw dark) in
    rw (← on) (later.0, λ at entry. later.1 at entry ∙ rw (dark, none_read (seen_at at)))

none_is : (one : Option Head) → is_none one ≡ true → one ≡ None
none_is (Some head) h = absurd cc
none_is None h = refl

pub dark_ends :
    {c : Chain} {f : ℕ} {old index : List ℕ} {ahead : Option Head} (row last : ℕ) → Passing c f old index ahead row → row ≤ last
    → is_none ahead ≡ true → Passing c f old index None last
dark_ends {c} {f} {old} {index} {ahead} row last p within ends =
    let is = none_is ahead ends in
    let comes = sym p.comes ∙ is in
    let all : row + (last - row) ≡ last = omega arith in
    let on = rw all at (stays_dark c f (last - row) row (sym (ahead_leads c row) ∙ ap (row_ahead c) comes) comes) in
    record {
      comes = sym on.0;
      numbers =
          record { same = p.numbers.same; each = λ at entry h e. p.numbers.each at entry h e ∙ sym (on.1 at entry) };
    }

-- the index after a store's first row is f, and all rows have written their numbers
pub all_numbered :
    (c : Chain) (f : ℕ) (old forgot new : List ℕ) → f ≤ rows → length old ≡ index_bytes → length forgot ≡ index_bytes
    → ((at : ℕ) → at < index_bytes → get_or forgot at 0 ≡ forgotten f (get_or old at 0))
    → RowsNumbered c f 0 rows forgot new → new ≡ entries (renewed_entry c f old) index_bytes
unfolding numbered_to
all_numbered c f old forgot new within long as_long was now =
    are_entries new (renewed_entry c f old) index_bytes (now.same ∙ as_long)
    (λ at h. now.each at (forgotten f (get_or old at 0)) h (was at h)
    ∙ numbers_so_far c f at (get_or old at 0) within rows (omega arith)
    ∙ ap (λ (x : ℕ). cond (ltb x f) x (entry_of c (seen_at at))) (any_default 0 no_row old at (omega arith)))

-- the rows that a mend notes
pub noted_rows :
    (c : Chain) (f many : ℕ) {l n : List ℕ} → length l ≡ index_bytes
    → RowsNoted (λ row read before after. Changed (read_at read) (lower row) before after) c f many l n
    → RowsNumbered c f f (f + many) l n
unfolding RowsNoted
noted_rows c f zero {l} {n} long e =
    let here : f + 0 ≡ f = omega arith in
    rw (here, ← e) (no_rows c f f l)
noted_rows c f (suc many) {l} {n} long (now, (earlier, this)) =
    let next : f + many + 1 ≡ f + suc many = omega arith in
    let put : (x : ℕ) → lower (f + many) x ≡ number_put f (f + many) x = λ x. rw (le-ltb (f + many) f (omega arith)) in
    rw (← next) (one_row (noted_rows c f many long earlier) long refl put this)

-- one walk after the other
pub rows_joined :
    {c : Chain} {f from to last : ℕ} {l m n : List ℕ} → RowsNumbered c f from to l m → RowsNumbered c f to last m n
    → RowsNumbered c f from last l n
rows_joined before now =
    record {
      same = now.same ∙ before.same;
      each = λ at entry h e. now.each at entry h (before.each at entry h e);
    }

-- the index worked out afresh, from one in which no number stands
pub fresh_numbered : (c : Chain) {blank new : List ℕ} → blank ≡ replicate index_bytes no_row → RowsNumbered c 0 0 rows blank new → new ≡ index_of c
unfolding numbered_to
fresh_numbered c {blank} {new} is now =
    are_entries new (λ at. entry_of c (seen_at at)) index_bytes
    (now.same ∙ ap (λ (l : List ℕ). length l) is ∙ length-replicate index_bytes no_row)
    (λ at h. now.each at no_row h (ap (λ (l : List ℕ). get_or l at 0) is ∙ get_or-replicate index_bytes at no_row 0 h)
    ∙ numbers_so_far c 0 at no_row (omega arith) rows (omega arith))
