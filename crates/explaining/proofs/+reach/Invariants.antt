use Rattle.explaining.proofs.+reach.Given as goal

abbrev pub decreases-reach : goal.decreases-reach
decreases-reach l = l.row
