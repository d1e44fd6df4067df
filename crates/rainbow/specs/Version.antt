-- RAINBOW_VERSION, include/rainbow.h
use Rattle.std.specs.Prelude.{ℕ}

abbrev pub version : ℕ
version = 9
