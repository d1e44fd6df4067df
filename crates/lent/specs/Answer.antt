-- Document 01, "Numbers of refusal": "A refusal returns its number, with byte read .. 0".
use Rattle.std.specs.Prelude.{ℕ, Result, Ok, Err}
use Rattle.lent.specs.Refusals.{accepted, number_of}
use Rattle.lent.specs.declared.refusals.Refusal.{Refusal}
use Rattle.lent.specs.declared.ByteRead.{ByteRead}

abbrev pub byte_read : ℕ → ByteRead
byte_read b = record { refusal = accepted; byte = b }

abbrev pub read_refused : ℕ → ByteRead
read_refused n = record { refusal = n; byte = 0 }

-- what a call that reads a byte tells C
abbrev pub byte_answered : Result ℕ Refusal → ByteRead
byte_answered (Ok byte) = byte_read byte
byte_answered (Err refusal) = read_refused (number_of refusal)
