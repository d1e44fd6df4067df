-- How long the text of a number is at most.
use Rattle.std.proofs.Common.{ℕ, ◌≤◌, ◌≡◌, length, refl, arith, length-append}
use Rattle.std.proofs.lemmas.Bool.Decides.{nat_tests}
use Rattle.ascii.specs.Numbers.{reached, decimal, hex}

reached_fits : (n power : ℕ) → length (reached n power) ≤ 1
unfolding reached
reached_fits n power = grind (arith, nat_tests)

pub decimal_fits : (n : ℕ) → length (decimal n) ≤ 5
unfolding decimal
decimal_fits n = simp length-append (omega (arith, reached_fits n 10000, reached_fits n 1000, reached_fits n 100, reached_fits n 10))

pub hex_length : (byte : ℕ) → length (hex byte) ≡ 2
unfolding hex
hex_length byte = refl
