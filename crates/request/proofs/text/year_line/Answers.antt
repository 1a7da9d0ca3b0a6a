-- The year's answer, whichever it is, as text. Assumes nothing.
use Rattle.std.proofs.Common.{◌≡◌, ◌<◌, ap, ◌∙◌, arith, ℤ}
use mir.Facts.{to_z-of_z}
use Rattle.std.proofs.lemmas.Result.{err_from_is_err_and}
use Rattle.reasoning.specs.Answer.{value}
use Rattle.law.specs.Document.{day, YearValues, bad_year, solstice, fraction, year_answer}
use Rattle.law.specs.Request.{year_text, year_written, answer_text}
use Rattle.reasoning.proofs.Answers.{passed}
use Rattle.law.proofs.Floor.{floor_less}
use Rattle.units.proofs.Callers.{told}
use Rattle.sun.specs.Said.{said_year, values_of_year}
use Rattle.request.proofs.text.year_line.Goals as goal

fraction_less : (N : ℤ) {v : YearValues} → value v ≡ year_answer N → v.solstice_fraction < day
unfolding year_answer fraction
fraction_less N e = omega (arith, ap (λ (v : YearValues). v.solstice_fraction) (passed (bad_year N) 1 _ e).is, floor_less (solstice N) day (omega arith))

pub year_text-requires : goal.year_text-requires
year_text-requires c = fraction_less _ (told said_year year_answer c.ranges.n c.year_of.ensures c.in_ok-year_of.was)

pub returns : goal.returns
unfolding answer_text
returns c =
    c.year_text.ensures
    ∙ (ap (λ (z : ℤ). year_text z (values_of_year c.in_ok-year_of.field-0)) (to_z-of_z c.ranges.n)
    ∙ ap (year_written c.args.n) (told said_year year_answer c.ranges.n c.year_of.ensures c.in_ok-year_of.was))

pub returns-in_err-year_of : goal.returns-in_err-year_of
unfolding answer_text
returns-in_err-year_of c =
    let p = err_from_is_err_and c.from_residual.result c.from_residual.ensures.1 in
    rw (p.1, p.2) (ap (year_written c.args.n) (told said_year year_answer c.ranges.n c.year_of.ensures c.in_err-year_of.was))
