-- No sentence of a document: what our own functions promise each other. Here those that write row numbers to an index,
-- and the one that names a row by it.
use Rattle.std.specs.Prelude.{ℕ, zero, suc, ◌+◌, ◌%◌, ◌<◌, ◌≡◌, ◌==◌, List, ◌++◌, Bool, if◌then◌else◌, length, get_or, nat_lt, Option, is_some}
use Rattle.std.specs.Bool.{then_some}
use Rattle.std.specs.Int.{from_bool}
use Rattle.lent.specs.Lengths.{index_bytes}
use Rattle.memories.specs.declared.view8088.Seen.{Seen}
use Rattle.chain.specs.Chain.{Chain, places, rows, row_at}
use Rattle.chain.specs.Reading.{from}
use Rattle.records.specs.declared.RowRead.{RowRead}
use Rattle.readers.specs.Readers.{reads_byte, row_reads}
use Rattle.index.specs.Index.{no_row, seen_at}
use Rattle.index.specs.Store.{entry_in}

-- the row that the index names for the byte that the 8088 sees, if it names one
abbrev pub row_named : (index : List ℕ) → Option Seen → Option ℕ
row_named index seen = let entry = entry_in index seen in then_some (nat_lt entry rows) entry

-- an entry that is not under a row is forgotten
abbrev pub forgotten : (first entry : ℕ) → ℕ
forgotten first entry = if nat_lt entry first then entry else no_row

-- a row's number in the place of an entry that is over it
abbrev pub lower : (row entry : ℕ) → ℕ
lower row entry = if nat_lt row entry then row else entry

-- a row's number where none stands
abbrev pub unless_numbered : (row entry : ℕ) → ℕ
unless_numbered row entry = if entry == no_row then row else entry

-- ahead of the first row that is drawn the second; from there on the first, which comes to the same: an entry is then
-- 255, or under the row
abbrev pub number_put : (first row entry : ℕ) → ℕ
number_put first row entry = if nat_lt row first then unless_numbered row entry else lower row entry

-- a list in which some elements are changed
pub record Changed (these : ℕ → Bool) (change : ℕ → ℕ) (before after : List ℕ) : Type 0 where
  pub same : length after ≡ length before
  pub each :
      (at : ℕ) → at < length before
      → get_or after at 0 ≡ (if these at then change (get_or before at 0) else get_or before at 0)

-- whether a row that was read reads the place that an entry is for
abbrev pub read_at : RowRead → (at : ℕ) → Bool
read_at read at =
    let start = read.head.start in
    let cells = read.cells in
    reads_byte (seen_at at) (from start read.reads)
    (from start cells ++ from ((start + cells + 1) % places) (from_bool (is_some read.next)))

-- an entry after the first rows have written their numbers to all that they read
unfoldable pub numbered_to : Chain → (first at row entry : ℕ) → ℕ
numbered_to c first at zero entry = entry
numbered_to c first at (suc row) entry =
    let before = numbered_to c first at row entry in
    if row_reads c (seen_at at) (row_at c row) then number_put first row before else before

-- an index in which the rows from one to another have done so, whatever the entries were before the first row
pub record RowsNumbered (c : Chain) (first from to : ℕ) (before after : List ℕ) : Type 0 where
  pub same : length after ≡ length before
  pub each :
      (at entry : ℕ) → at < index_bytes → get_or before at 0 ≡ numbered_to c first at from entry
      → get_or after at 0 ≡ numbered_to c first at to entry
