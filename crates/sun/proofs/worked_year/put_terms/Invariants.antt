-- The first k places hold the first k terms. Assumes nothing.
use Rattle.std.proofs.Common.{◌≡◌, length}
use Rattle.law.specs.Document.{epicycles}
use Rattle.reasoning.proofs.InOrder.{FilledTo}
use Rattle.motion.specs.Working.{term_of}
use Rattle.sun.specs.Said.{values_of_term}
use Rattle.sun.specs.Worked.{zero_record}
use Rattle.sun.proofs.worked_year.put_terms.Given as goal

abbrev pub invariant-loop-k : goal.invariant-loop-k
invariant-loop-k l = (length l.terms ≡ 24) × FilledTo values_of_term (term_of epicycles l.counted.y) zero_record l.terms l.k
