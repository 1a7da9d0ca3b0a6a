-- What is written and the line so far, with the rest of the block, give what the block gives. Assumes nothing.
use Rattle.request.proofs.answers.Feeding.{Feeding}
use Rattle.request.proofs.answers.feed_block.Given as goal

abbrev pub invariant-loop-b : goal.invariant-loop-b
invariant-loop-b l = Feeding l.fn.line l.block l.initial.out l.out l.fed l.b-index
