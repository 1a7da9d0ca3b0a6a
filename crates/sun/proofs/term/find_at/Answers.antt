-- The search of a year inside and a term up to 23; refusals 1 and 3 in their order, each exactly where its test holds. Assumes nothing.
use Rattle.std.proofs.Common.{rules, refl, ◌∙◌, arith}
use borrow.Author.Tests.{lt-ltb}
use Rattle.law.specs.Document.{epicycles}
use Rattle.motion.specs.Working.{find_answer}
use Rattle.motion.proofs.TermAnswers.{found_value}
use Rattle.sun.specs.Said.{values_of_found}
use Rattle.sun.proofs.PassedUp.{passed_up, count_refused, counted_known}
use Rattle.sun.proofs.term.find_at.Goals as goal

pub returns-in_err-year : goal.returns-in_err-year
unfolding find_answer
returns-in_err-year c =
    passed_up values_of_found c.from_residual.result c.in_err-year.field-0.0 c.from_residual.ensures.1
    ∙ count_refused _ c.ranges.n c.of.ensures c.in_err-year.was

pub returns-then-k-gt23 : goal.returns-then-k-gt23
unfolding find_answer
returns-then-k-gt23 c =
    rw ((counted_known c.ranges.n c.of.ensures c.in_ok-year.was).test, lt-ltb _ _ c.if-k-gt23.true) refl

pub returns : goal.returns
returns c =
    let n = counted_known c.ranges.n c.of.ensures c.in_ok-year.was in
    (search rules) ∙ found_value epicycles c.args.n n c.args.k (omega arith)
