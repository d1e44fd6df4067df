use mathlib.Core.Path.{refl, sym, ◌∙◌}
use Rattle.dots.proofs.Laws.{shades_differ}
use Rattle.dots.proofs.Look.turn.Goals as goal

pub returns-then-is_underlined : goal.returns-then-is_underlined
returns-then-is_underlined c = let look = c.args.self.now in
    rw (← shades_differ look.machine look.attribute look.scan, sym c.is_underlined.ensures ∙ c.if-is_underlined.true) refl

pub returns-else-is_underlined : goal.returns-else-is_underlined
returns-else-is_underlined c = let look = c.args.self.now in
    rw (← shades_differ look.machine look.attribute look.scan, sym c.is_underlined.ensures ∙ c.if-is_underlined.false)
    c.lit-shown.ensures
