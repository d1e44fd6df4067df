-- A record is what its row reads: two chains that hold the same bytes wherever a row reads give it the same record.
use Rattle.std.specs.Prelude.{◌≡◌}
use Rattle.chain.specs.Chain.{Chain, Row}
use Rattle.chain.specs.Alike.{ReadAlike}
use Rattle.records.specs.Record.{record_of}

abbrev pub RecordIsWhatItReads : Type 0
RecordIsWhatItReads = (c d : Chain) (row : Row) → ReadAlike c d row → record_of d row ≡ record_of c row
