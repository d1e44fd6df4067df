use Prim.Native.Nat.{ℕ}
use mathlib.Core.Path.{sym, ap, ◌∙◌}
use lib.ListN.{replicate}
use Rattle.scan_line.specs.Line.{line_of}
use Rattle.scan_line.proofs.Row.draw.Goals as goal

pub returns-then-shows_nothing : goal.returns-then-shows_nothing
unfolding line_of
returns-then-shows_nothing c =
    rw (sym c.shows_nothing.ensures ∙ c.if-shows_nothing.true)
    (c.fill.ensures.after (λ y same. same) ∙ ap (λ (bytes : ℕ). replicate {A = ℕ} bytes 0) c.told-line)
