-- The index of a year inside is within 4,000, and its root stands beside it. Assumes nothing.
use Rattle.units.proofs.Callers.{year_known}
use Rattle.sun.proofs.midnight.CountedYear.of.Goals as goal

pub root_of-requires : goal.root_of-requires
root_of-requires c = (year_known c.ranges.n c.year_index.ensures c.in_ok-y.was).most

pub invariant_of-result : goal.invariant_of-result
invariant_of-result c = record { within = (year_known c.ranges.n c.year_index.ensures c.in_ok-y.was).most; rooted = c.root_of.ensures.0 }
