-- No sentence of document 01: what our own functions promise each other. Here those of the walk that draws nothing.
use Rattle.std.specs.Prelude.{◌<◌, Option, nat_lt}
use Rattle.std.specs.Bool.{then_some}
use Rattle.lent.specs.Lengths.{screen_bytes, attribute_bytes}
use Rattle.memories.specs.declared.view8088.Seen.{Seen}
use Rattle.memories.specs.declared.view8088.Seen.TheVariants.{Shared, Screen, Attribute}
use Rattle.chain.specs.Chain.{Chain, rows}
use Rattle.chain.specs.Inner.{ahead_of}
use Rattle.readers.specs.Readers.{first_reader}
use Rattle.readers.specs.declared.Reader.{Reader}

-- where the walk comes to the first reader, if a row reads the byte
abbrev pub found : Chain → Option Seen → Option Reader
found c seen =
    let f = first_reader c seen in
    then_some (nat_lt f rows) (record { row = f; ahead = ahead_of c f })

-- the place of screen or attribute memory lies in it
abbrev pub InMemory : Seen → Type 0
InMemory (Shared place) = Unit {0}
InMemory (Screen place) = place < screen_bytes
InMemory (Attribute place) = place < attribute_bytes
