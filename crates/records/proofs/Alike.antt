-- A record is what its row reads: the statement of specs/Alike.antt.
use Prim.Native.Nat.{ℕ, zero, suc, ◌+◌, ◌<◌}
use mathlib.Core.Path.{◌≡◌, refl}
use native.Mathlib.Omega.{arith}
use Rattle.chain.specs.Chain.{Chain, Whole, Torn, Dark, byte_at, capacity}
use Rattle.chain.specs.Reading.{from, screen_read, attribute_read}
use Rattle.chain.specs.Alike.{read_ahead_of_high}
use Rattle.chain.proofs.Alike.{each_alike, both_alike}
use Rattle.records.specs.Record.{cell_pairs, record_of}
use Rattle.records.specs.Alike.{RecordIsWhatItReads}

module _ (c d : Chain) (start : ℕ) where
  cells_alike :
      (n : ℕ) → ((i : ℕ) → i < n → byte_at c.screen (start + i) ≡ byte_at d.screen (start + i))
      → ((i : ℕ) → i < n → byte_at c.attribute (start + i) ≡ byte_at d.attribute (start + i))
      → cell_pairs d.screen d.attribute start n ≡ cell_pairs c.screen c.attribute start n
  unfolding cell_pairs
  cells_alike zero screen attribute = refl
  cells_alike (suc n) screen attribute =
      let before =
      cells_alike n (λ i h. screen i (omega arith)) (λ i h. attribute i (omega arith)) in
      grind (arith, screen n, attribute n)

pub record_is_what_it_reads : RecordIsWhatItReads
unfolding record_of cell_pairs read_ahead_of_high screen_read attribute_read
record_is_what_it_reads c d (Whole head n) alike =
    let start = head.start in
    let screen = each_alike c.screen d.screen start (n + 2) alike.screen in
    let cells = (both_alike c.attribute d.attribute start n (from (start + n + 1) 1) alike.attribute).0 in
    let attribute = each_alike c.attribute d.attribute start n cells in
    rw (cells_alike c d start n (λ i h. screen i (omega arith)) attribute)
record_is_what_it_reads c d (Torn head) alike =
    let start = head.start in
    let n = capacity c.columns head.kind in
    let screen = each_alike c.screen d.screen start (n + 1) alike.screen in
    let attribute = each_alike c.attribute d.attribute start n alike.attribute in
    rw (← alike.columns, cells_alike c d start n (λ i h. screen i (omega arith)) attribute)
record_is_what_it_reads c d Dark alike = refl
