-- No cell that a row shows is FF: the statement of specs/Record.antt.
use Prim.Native.Nat.{ℕ, zero, suc, ◌+◌, ◌≤◌, ◌<◌}
use mathlib.Core.Path.{◌≡◌}
use mathlib.Core.List.{List}
use native.Mathlib.Omega.{arith}
use Rattle.std.proofs.lemmas.Bool.Decides.{nat_tests}
use Rattle.chain.specs.Chain.{byte_at, capacity, first_ff, terminator, row_from}
use Rattle.std.specs.Prelude.{Option, Some, None}
use Rattle.records.specs.Record.{FfIsNoCell}

-- the bytes that a search has passed when it ends
passed : (all : ℕ) → Option ℕ → ℕ
passed all (Some cells) = cells
passed all None = all

none_passed :
    (screen : List ℕ) (start cells bytes i : ℕ) → cells ≤ i → i < passed (cells + bytes) (first_ff screen start cells bytes)
    → byte_at screen (start + i) ≡ 0xFF → ⊥
unfolding first_ff passed
none_passed screen start cells zero i from under is = omega arith
none_passed screen start cells (suc bytes) i from under is =
    grind (arith, nat_tests, none_passed screen start (cells + 1) bytes i)

pub ff_is_no_cell : FfIsNoCell
unfolding row_from terminator passed
ff_is_no_cell c head cell under is =
    let bytes = capacity c.columns head.kind + 1 in
    grind (arith, none_passed c.screen head.start 0 bytes cell)
