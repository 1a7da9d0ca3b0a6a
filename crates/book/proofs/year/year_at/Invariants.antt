-- What is left to check from term k on gives the year's answer at each turn. Assumes nothing.
use Rattle.std.proofs.Common.{◌≡◌, ◌-◌, drop}
use Rattle.law.specs.Book.{terms_from, year_from}
use Rattle.book.proofs.year.year_at.Given as goal

abbrev pub invariant-loop-k : goal.invariant-loop-k
invariant-loop-k l = terms_from (24 - l.k) l.k l.end (drop l.end l.book) ≡ year_from l.least l.at (drop l.at l.book)
