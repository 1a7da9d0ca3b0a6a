-- The terms of a year inside are the document's; refusal 1 leaves none. Assumes nothing.
use Rattle.std.proofs.Common.{ap, arith}
use Rattle.reasoning.specs.Answer.{value}
use Rattle.std.specs.Prelude.{Ok}
use Rattle.law.specs.Document.{epicycles, terms_answer}
use Rattle.motion.proofs.TermAnswers.{terms_value}
use Rattle.sun.proofs.PassedUp.{count_out, counted_known}
use Rattle.sun.proofs.worked_year.WorkedAnswers.{worked_out}
use Rattle.sun.proofs.worked_year.work_year.Goals as goal

pub returns-in_default : goal.returns-in_default
unfolding terms_answer
returns-in_default c = record { says = count_out _ c.ranges.n c.of.ensures c.in_default.is; values = tt }

pub returns : goal.returns
returns c =
    let n = counted_known c.ranges.n c.of.ensures c.in-Ok.is in
    let put = c.put_terms.ensures.1 in
    worked_out (Ok _) n (record { says = ap value put; values = c.year_in.ensures }) (terms_value epicycles (omega arith) c.args.n n)
