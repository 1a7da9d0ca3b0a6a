-- The terms that are left decide at each turn. Assumes nothing.
use Rattle.std.proofs.Common.{◌≡◌, false, length, map}
use Rattle.law.specs.Document.{epicycles}
use Rattle.law.specs.Book.{any_bad}
use Rattle.sun.specs.Said.{values_of_term}
use Rattle.verify.specs.Verify.{year_verdict}
use Rattle.verify.proofs.YearTurns.{terms_left}
use Rattle.verify.proofs.year_verdict.Given as goal

abbrev pub invariant-loop-k : goal.invariant-loop-k
invariant-loop-k l =
    (length l.term-items ≡ 24) × (any_bad (map values_of_term l.term-items) ≡ false) × (terms_left l.at l.part l.term-items l.k ≡ year_verdict epicycles l.at l.part)
