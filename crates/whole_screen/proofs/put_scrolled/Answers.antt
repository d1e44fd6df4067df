use mathlib.Core.Path.{◌∙◌}
use native.Mathlib.Omega.{arith}
use borrow.Author.Rules.{rules}
use Rattle.whole_screen.proofs.ByNumber.{three_parts}
use Rattle.whole_screen.proofs.Filling.{whole_filled}
use Rattle.whole_screen.proofs.put_scrolled.Goals as goal

pub returns : goal.returns
returns c = whole_filled _ _ _ _ _ _ _ _ _ (search rules) (omega arith) (omega arith)
    c.put_lines.ensures
    c.put_lines-2.ensures
    c.put_lines-3.ensures
    ∙ three_parts _ _ _ (search rules) (search rules) (search rules)
