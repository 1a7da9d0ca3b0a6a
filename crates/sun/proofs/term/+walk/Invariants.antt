-- The measure is the number of midnights left. Assumes nothing.
use Rattle.sun.proofs.term.+walk.Given as goal

abbrev pub decreases-walk : goal.decreases-walk
decreases-walk l = l.left
