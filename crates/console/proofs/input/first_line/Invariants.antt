-- What was taken is the line so far, a byte at least for each read. Assumes nothing.
use Rattle.console.proofs.ReadSoFar.{ReadSoFar}
use Rattle.console.proofs.input.first_line.Given as goal

abbrev pub invariant-loop-read : goal.invariant-loop-read
invariant-loop-read g l = ReadSoFar l._read (g.R.Read.remaining l.initial.input) (g.R.Read.remaining l.input) l.line
