use Rattle.commands.proofs.Digits.{Reading}
use Rattle.commands.proofs.meanings.number.Given as goal

abbrev pub invariant-loop-byte : goal.invariant-loop-byte
invariant-loop-byte l = Reading l.base l.form l.word l.value l.byte-index
