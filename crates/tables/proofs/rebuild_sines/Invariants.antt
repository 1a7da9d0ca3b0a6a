-- After k turns the first k entries are in their places, and the one at hand is the next. Assumes nothing.
use Rattle.tables.proofs.Adding.{Rebuilt}
use Rattle.tables.proofs.rebuild_sines.Given as goal

abbrev pub invariant-loop-k : goal.invariant-loop-k
invariant-loop-k l = Rebuilt l.fn.table l.table l.entry l.k
