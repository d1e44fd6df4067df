-- No sentence of a document: what our own functions promise each other.
use Rattle.std.specs.Prelude.{◌<◌}
use Rattle.lent.specs.Lengths.{shared_bytes, screen_bytes, attribute_bytes}
use Rattle.memories.specs.declared.view8088.Seen.{Seen}
use Rattle.memories.specs.declared.view8088.Seen.TheVariants.{Shared, Screen, Attribute}

-- the place that is seen lies in its memory
abbrev pub InMemory : Seen → Type 0
InMemory (Shared place) = place < shared_bytes
InMemory (Screen place) = place < screen_bytes
InMemory (Attribute place) = place < attribute_bytes
