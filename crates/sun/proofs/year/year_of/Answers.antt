-- The year's four values are the document's, and refusal 1 exactly outside its years. Assumes nothing.
use Rattle.std.proofs.Common.{ap, sym, ◌∙◌}
use Rattle.reasoning.specs.Answer.{value}
use Rattle.law.specs.Document.{year_values, year_answer}
use Rattle.motion.proofs.Bridge.{year_values_is}
use Rattle.sun.specs.Said.{values_of_year}
use Rattle.sun.proofs.PassedUp.{passed_up, count_refused, counted_known}
use Rattle.sun.proofs.year.year_of.Goals as goal

pub returns-in_err-year : goal.returns-in_err-year
unfolding year_answer
returns-in_err-year c =
    passed_up values_of_year c.from_residual.result c.in_err-year.field-0.0 c.from_residual.ensures.1
    ∙ count_refused (value (year_values c.args.n)) c.ranges.n c.of.ensures c.in_err-year.was

pub returns : goal.returns
unfolding year_answer
returns c =
    let i = counted_known c.ranges.n c.of.ensures c.in_ok-year.was in
    rw i.test (ap value (c.year_in.ensures ∙ sym (year_values_is i.is)))
