use lib.ListN.{length}
use Rattle.commands.specs.Texts.{texts}
use Rattle.commands.specs.Words.{words}
use Rattle.commands.proofs.Numbers.{Numbered}
use Rattle.commands.proofs.fitted.Given as goal

abbrev pub invariant-loop-wanted : goal.invariant-loop-wanted
invariant-loop-wanted l =
    Numbered (texts l.names) l.number (words l.fn.form) (words l.fn.line) (words l.form) (words l.line) l.numbers l.found

abbrev pub decreases-loop-wanted : goal.decreases-loop-wanted
decreases-loop-wanted l = length (words l.form)
