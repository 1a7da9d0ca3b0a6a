-- What is left of the book gives its answer at each turn. Assumes nothing.
use Rattle.std.proofs.Common.{◌≡◌, ◌-◌, drop, length}
use Rattle.law.specs.Book.{book_from}
use Rattle.book.proofs.year.check_after.Given as goal

abbrev pub invariant-loop-year : goal.invariant-loop-year
invariant-loop-year l = book_from l.last.least l.last.end (drop l.last.end l.book) ≡ book_from l.fn.year.least l.fn.year.end (drop l.fn.year.end l.book)

abbrev pub decreases-loop-year : goal.decreases-loop-year
decreases-loop-year l = length l.book - l.last.end
