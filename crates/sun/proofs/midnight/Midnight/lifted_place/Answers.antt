-- The lifted mean place moved by the equation that both tables give. Assumes nothing.
use Rattle.std.proofs.Common.{ap, ◌∙◌}
use Rattle.std.proofs.lemmas.Result.{IfOk-from_err}
use Rattle.reasoning.specs.Answer.{value}
use Rattle.law.specs.Document.{epicycles}
use Rattle.units.specs.Said.{number_of}
use Rattle.sun.proofs.PassedUp.{passed_up}
use Rattle.sun.proofs.place.Places.{place_moved, place_refused}
use Rattle.sun.proofs.midnight.Midnight.lifted_place.Goals as goal

pub returns-in_err-size : goal.returns-in_err-size
returns-in_err-size g c =
    let at = c.args.self in (
      passed_up (λ n. n) c.from_residual.result c.in_err-size.field-0.0 c.from_residual.ensures.1
          ∙ place_refused epicycles at.year.y at.day {k = number_of c.in_err-size.field-0.0} c.anomaly-a.ensures.0 c.in_err-size.ensures.0,
      IfOk-from_err c.from_residual.result _ c.from_residual.ensures.0,
    )

pub returns : goal.returns
returns g c =
    let at = c.args.self in (
      ap value c.moved.ensures.0
          ∙ place_moved epicycles at.year.y at.day {said = value c.in_ok-size.size} c.anomaly-a.ensures.0 c.lifted_mean.ensures.0 c.in_ok-size.ensures.0,
      c.moved.ensures.1,
    )
