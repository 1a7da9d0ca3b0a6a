-- What has been taken is answered, but for the line that is still open. Assumes nothing.
use Rattle.solstice.proofs.Answered.{Answered}
use Rattle.solstice.proofs.answer_all.Given as goal

abbrev pub invariant-loop : goal.invariant-loop
invariant-loop g l =
    Answered (g.R.Read.remaining l.initial.input) (g.R.Read.remaining l.input) (g.W.Write.contents l.initial.out) (g.W.Write.contents l.out) l.line
