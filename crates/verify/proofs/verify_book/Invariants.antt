-- The years left give the verdict at each turn. Assumes nothing.
use Rattle.std.specs.Iterator.Adapters.{enumerate_source, enumerate_count}
use Rattle.std.specs.Slice.Iter.{chunks_exact_rest, chunks_exact_size}
use Rattle.law.specs.Document.{epicycles}
use Rattle.verify.proofs.Turns.{Going}
use Rattle.verify.proofs.verify_book.Given as goal

abbrev pub invariant-loop-i : goal.invariant-loop-i
invariant-loop-i l =
    let years = l.i-iterator in
    Going epicycles l.book (chunks_exact_rest (enumerate_source years)) (chunks_exact_size (enumerate_source years)) (enumerate_count years)
