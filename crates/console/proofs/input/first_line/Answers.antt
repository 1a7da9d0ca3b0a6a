-- A byte more, where the line stays open; what was taken and is asked; and no line is open after six reads. Assumes nothing.
use Rattle.std.proofs.Common.{sym, ap, ◌∙◌, rules, arith}
use Rattle.request.specs.First.{said_first}
use Rattle.console.proofs.SixReads.{settled}
use Rattle.console.proofs.ReadSoFar.{unread, read_opens, read_settles, read_ends, takes_line}
use Rattle.console.proofs.input.first_line.Goals as goal

pub loop-read-init : goal.loop-read-init
loop-read-init g c = unread _

pub returns-then-n-eq0-clause-asked : goal.returns-then-n-eq0-clause-asked
returns-then-n-eq0-clause-asked g c =
    read_ends (g.R.Read.remaining c.read.new.self) _ c.read.new.buf c.line_end.ensures c.if-n-eq0.true (search rules) (search rules) (grind arith) c.loop-read.invariant

pub returns-in-Asked-clause-asked : goal.returns-in-Asked-clause-asked
returns-in-Asked-clause-asked g c =
    read_settles (g.R.Read.remaining c.read.new.self) _ (sym (ap said_first c.in-Asked.is) ∙ c.first_line.ensures) (search rules) c.loop-read.invariant

pub returns-in-Asked-clause-taken : goal.returns-in-Asked-clause-taken
returns-in-Asked-clause-taken g c =
    takes_line c.in-Asked.asked _ (sym (ap said_first c.in-Asked.is) ∙ c.first_line.ensures) (grind arith) (search rules) c.loop-read.invariant

pub loop-read-preserved : goal.loop-read-preserved
loop-read-preserved g c = read_opens _ (sym (ap said_first c.in-Open.is) ∙ c.first_line.ensures) (grind arith) (search rules) c.loop-read.invariant

pub unreachable-requires : goal.unreachable-requires
unreachable-requires g c = absurd (settled c.loop-read.line (grind arith, c.loop-read.invariant.most))
