-- The record of the row that lies ahead, drawn as it was read.
use Rattle.std.proofs.Common.{◌≡◌, ℕ, List, Option, ap, ◌∙◌}
use Rattle.chain.specs.Chain.{Chain}
use Rattle.chain.specs.Inner.{row_ahead}
use Rattle.chain.specs.declared.Head.{Head}
use Rattle.records.specs.Record.{record_of}
use Rattle.records.specs.Inner.{row_read, record_read}
use Rattle.records.specs.declared.RowRead.{RowRead}

pub drawn_as_read :
    (c : Chain) (ahead : Option Head) {read : RowRead} {drawn : List ℕ} → read ≡ row_read c ahead
    → drawn ≡ record_read c.screen c.attribute read → drawn ≡ record_of c (row_ahead c ahead)
unfolding record_of
drawn_as_read c ahead is told = told ∙ ap (record_read c.screen c.attribute) is
