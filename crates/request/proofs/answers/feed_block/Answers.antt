-- A byte of the block is one step of what the block gives. Assumes nothing.
use Rattle.std.proofs.Common.{arith}
use Rattle.request.proofs.answers.Feeding.{one_fed}
use Rattle.request.proofs.answers.feed_block.Goals as goal

pub loop-b-preserved : goal.loop-b-preserved
loop-b-preserved c = one_fed c.loop-b.invariant (omega arith) c.step-fed.ensures
