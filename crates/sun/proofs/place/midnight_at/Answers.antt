-- Both edges are document 01's, the year's refusal first. Assumes nothing.
use Rattle.std.proofs.Common.{◌∙◌}
use Rattle.units.specs.IndexAnswers.{year_index_answer, day_index_answer}
use Rattle.units.specs.Said.{said_number}
use Rattle.units.proofs.Callers.{told, day_known}
use Rattle.sun.specs.Said.{said_counted, values_of_midnight}
use Rattle.sun.proofs.PassedUp.{passed_up}
use Rattle.sun.proofs.place.YearAndDay.{midnight_bad_year, midnight_bad_day, midnight_is}
use Rattle.sun.proofs.place.midnight_at.Goals as goal

pub returns-in_err-year : goal.returns-in_err-year
returns-in_err-year c =
    passed_up values_of_midnight c.from_residual.result c.in_err-year.field-0.0 c.from_residual.ensures.1
    ∙ midnight_bad_year c.args.n c.args.d (told said_counted year_index_answer c.ranges.n c.of.ensures c.in_err-year.was)

pub returns-in_err-day : goal.returns-in_err-day
returns-in_err-day c =
    passed_up values_of_midnight c.from_residual-in_err-day.result c.in_err-day.field-0.0 c.from_residual-in_err-day.ensures.1
    ∙ midnight_bad_day c.args.n c.args.d (told said_counted year_index_answer c.ranges.n c.of.ensures c.in_ok-year.was)
    (told said_number day_index_answer c.ranges.d c.day_index.ensures c.in_err-day.was)

pub invariant_of-result : goal.invariant_of-result
invariant_of-result c = record { within = (day_known c.ranges.d c.day_index.ensures c.in_ok-day.was).most }

pub returns : goal.returns
returns c =
    midnight_is c.args.n c.args.d (told said_counted year_index_answer c.ranges.n c.of.ensures c.in_ok-year.was)
    (told said_number day_index_answer c.ranges.d c.day_index.ensures c.in_ok-day.was)
