use mathlib.Core.Path.{◌∙◌}
use native.Mathlib.Omega.{arith}
use Rattle.commands.proofs.Digits.{no_digit, over_32_bits, digit_on, digits_end}
use Rattle.commands.proofs.meanings.number.Goals as goal

pub returns-in_err-digit : goal.returns-in_err-digit
returns-in_err-digit c = c.from_residual.ensures ∙ no_digit c.loop-byte.invariant c.requires.most (omega arith) c.from.ensures c.in_err-digit.ensures.value

pub returns-in_err-checked_mul : goal.returns-in_err-checked_mul
returns-in_err-checked_mul c = c.from_residual-in_err-checked_mul.ensures ∙ over_32_bits c.loop-byte.invariant c.requires.most (omega arith) c.from.ensures c.in_ok-digit.ensures.value (omega (arith, c.in_err-checked_mul.ensures))

pub returns-in_err-value : goal.returns-in_err-value
returns-in_err-value c = c.from_residual-in_err-value.ensures ∙ over_32_bits c.loop-byte.invariant c.requires.most (omega arith) c.from.ensures c.in_ok-digit.ensures.value (omega (arith, c.in_err-value.ensures, c.in_ok-checked_mul.ensures))

pub loop-byte-preserved : goal.loop-byte-preserved
loop-byte-preserved c = digit_on c.loop-byte.invariant c.requires.most (omega arith) c.from.ensures c.in_ok-digit.ensures.value
    (omega (arith, c.in_ok-value.ensures), omega (arith, c.in_ok-value.ensures, c.in_ok-checked_mul.ensures))

pub returns : goal.returns
returns c = digits_end c.loop-byte.invariant (omega arith)
