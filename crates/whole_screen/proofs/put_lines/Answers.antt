use Prim.Native.Nat.{ℕ, ◌+◌, ◌-◌, ◌*◌, ◌/◌}
use mathlib.Core.Path.{◌≡◌, ap, ◌∙◌}
use native.Mathlib.Omega.{arith}
use lib.ListN.{length, take, drop}
use Rattle.std.proofs.lemmas.List.{nil_from_length}
use Rattle.picture.specs.Picture.{in_order}
use Rattle.whole_screen.proofs.Numbers.{lines_cut}
use Rattle.whole_screen.proofs.put_lines.Goals as goal

pub returns-then-is_empty : goal.returns-then-is_empty
unfolding in_order
returns-then-is_empty c =
    let none : length c.args.part.now ≡ 0 = grind (arith, c.is_empty.ensures, c.if-is_empty.true) in
    rw none (nil_from_length c.args.part.now none)

pub returns : goal.returns
returns c = let all = c.all_lines-all.result.now in
    let from = c.args.from in
    let bytes = length c.args.part.now in
    let even : 2 * from + bytes - 2 * from ≡ 2 * (bytes / 2) = omega (arith, c.requires.even) in
    c.copy_from_slice.ensures.after ∙ ap (λ (n : ℕ). take n (drop (2 * from) all)) even
    ∙ lines_cut all from (bytes / 2) c.all_lines-all.ensures c.requires.among
