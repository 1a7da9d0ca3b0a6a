-- The digits above the last are a number of one digit fewer. Assumes nothing.
use Rattle.request.proofs.text.Text.+digits.Given as goal

abbrev pub decreases-digits : goal.decreases-digits
decreases-digits l = l.most
