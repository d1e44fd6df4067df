-- Document 01, "The chain of lines": the places of screen memory.
use Rattle.std.specs.Prelude.{ℕ}

-- "Places in screen memory are twelve bits: all places are taken modulo 4,096."
abbrev pub places : ℕ
places = 4096
