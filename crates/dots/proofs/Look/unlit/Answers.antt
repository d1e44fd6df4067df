use mathlib.Core.Path.{refl}
use Rattle.dots.specs.Attributes.{shade}
use Rattle.dots.proofs.Laws.{xor_differ}
use Rattle.dots.proofs.Look.unlit.Goals as goal

pub returns-then-is_inverted-is_underlined : goal.returns-then-is_inverted-is_underlined
unfolding shade
returns-then-is_inverted-is_underlined c =
    let lit = rw (c.is_inverted.ensures, c.is_underlined.ensures, xor_differ) at c.if-is_inverted-is_underlined.true in
    rw lit c.lit-shown.ensures

pub returns-else-is_inverted-is_underlined : goal.returns-else-is_inverted-is_underlined
unfolding shade
returns-else-is_inverted-is_underlined c =
    let lit = rw (c.is_inverted.ensures, c.is_underlined.ensures, xor_differ) at c.if-is_inverted-is_underlined.false in
    rw lit refl
