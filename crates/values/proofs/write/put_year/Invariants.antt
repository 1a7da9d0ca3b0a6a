-- What is filled so far, before the terms still to come, is the year at each turn. Assumes nothing.
use Rattle.std.proofs.Common.{map, ◌≡◌, ◌+◌, ◌*◌, drop}
use Rattle.law.specs.Book.{bytes_of}
use Rattle.sun.specs.Said.{values_of_term}
use Rattle.values.specs.Said.{given_year}
use Rattle.values.proofs.write.BufferFilled.{buffer_to}
use Rattle.values.proofs.write.put_year.Given as goal

abbrev pub invariant-loop-k : goal.invariant-loop-k
invariant-loop-k l =
    buffer_to l.k (5 + l.k * 6) (map values_of_term l.terms) l.buf ≡ bytes_of (given_year l.fn.head l.terms) (drop 149 l.fn.buf)
