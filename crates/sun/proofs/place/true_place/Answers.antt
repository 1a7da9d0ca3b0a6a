-- The lifted place, brought into the circle, is the document's true place; a refusal is passed on. Assumes nothing.
use Rattle.std.proofs.Common.{◌∙◌}
use Rattle.law.specs.Document.{epicycles}
use Rattle.units.specs.Said.{number_of}
use Rattle.sun.proofs.PassedUp.{passed_up}
use Rattle.sun.proofs.place.Midnights.{lifted_known}
use Rattle.sun.proofs.place.Places.{true_value, true_refused}
use Rattle.sun.proofs.place.true_place.Goals as goal

pub returns : goal.returns
returns c =
    true_value epicycles c.args.n c.args.d c.in_ok-place.place (lifted_known c.ranges.n c.ranges.d c.lifted_at.ensures.0 c.in_ok-place.was)

pub returns-in_err-place : goal.returns-in_err-place
returns-in_err-place c =
    passed_up (λ n. n) c.from_residual.result c.in_err-place.field-0.0 c.from_residual.ensures.1
    ∙ true_refused epicycles c.args.n c.args.d (number_of c.in_err-place.field-0.0) (lifted_known c.ranges.n c.ranges.d c.lifted_at.ensures.0 c.in_err-place.was)
