-- What is still to be sought gives the answer at each turn. Assumes nothing.
use Rattle.std.proofs.Common.{◌≡◌, ◌-◌, length}
use Rattle.book.proofs.seek.SeekSteps.{to_seek}
use Rattle.book.proofs.seek.seek.Given as goal

abbrev pub invariant-loop-year : goal.invariant-loop-year
invariant-loop-year l = to_seek l.y l.book l.last.end l.last.least ≡ to_seek l.y l.book 0 0

abbrev pub decreases-loop-year : goal.decreases-loop-year
decreases-loop-year l = length l.book - l.last.end
