-- A store and what the rows read: a row that does not read the stored byte reads the same, and the first row that reads
-- it is the same before and after.
use Rattle.std.specs.Prelude.{ℕ, ◌≡◌, List, false, Option}
use Rattle.memories.specs.View8088.{store_seen}
use Rattle.memories.specs.declared.view8088.Seen.{Seen}
use Rattle.chain.specs.Chain.{Chain, Row, chain}
use Rattle.chain.specs.Alike.{ReadAlike}
use Rattle.readers.specs.Readers.{row_reads, first_reader}

-- the chain after the byte is stored
abbrev pub chain_stored : Chain → Option Seen → (byte : ℕ) → (shared : List ℕ) → Chain
chain_stored c seen byte shared =
    let left = store_seen seen shared c.screen c.attribute byte in
    chain c.columns left.screen left.attribute

abbrev pub UnreadLeaves : Type 0
UnreadLeaves =
    (c : Chain) (seen : Option Seen) (byte : ℕ) (shared : List ℕ) (row : Row) → row_reads c seen row ≡ false
    → ReadAlike c (chain_stored c seen byte shared) row

-- "by the walk of memory before the store": the walk after it gives the same f
abbrev pub EitherWalk : Type 0
EitherWalk =
    (c : Chain) (seen : Option Seen) (byte : ℕ) (shared : List ℕ)
    → first_reader (chain_stored c seen byte shared) seen ≡ first_reader c seen
