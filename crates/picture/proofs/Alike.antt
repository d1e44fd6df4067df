-- The records of a walk are what its rows read: the statement of specs/Alike.antt.
use mathlib.Core.Path.{ap, ◌∙◌}
use Rattle.chain.specs.Chain.{row_at}
use Rattle.chain.proofs.Alike.{rows_are_what_they_read}
use Rattle.records.specs.Record.{record_of}
use Rattle.records.proofs.Alike.{record_is_what_it_reads}
use Rattle.picture.specs.Alike.{RecordsAreWhatTheRowsRead}

pub records_are_what_the_rows_read : RecordsAreWhatTheRowsRead
records_are_what_the_rows_read c d rows alike row h =
    ap (record_of d) ((rows_are_what_they_read c d rows alike).1 row h)
    ∙ record_is_what_it_reads c d (row_at c row) (alike row h)
