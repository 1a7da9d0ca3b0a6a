-- The lifted place, lowered again, is the document's run-on place; a refusal is passed on. Assumes nothing.
use Rattle.std.proofs.Common.{◌≤◌, ◌∙◌, arith, pos, ◌-ℤ◌, w64, to_z}
use Rattle.law.specs.Document.{epicycles}
use Rattle.motion.specs.Working.{lift}
use Rattle.units.specs.Said.{number_of}
use Rattle.units.proofs.Machine.{lowered, read}
use Rattle.sun.proofs.PassedUp.{passed_up}
use Rattle.sun.proofs.place.Midnights.{lifted_known}
use Rattle.sun.proofs.place.Places.{run_on_value, run_on_refused}
use Rattle.sun.proofs.place.run_on_place.Goals as goal

pub returns : goal.returns
returns c =
    let place = c.in_ok-place.place in
    let most : place ≤ 90_000_000_000_000 = c.in_ok-place.ensures.1 in
    let down = lowered w64 lift place (omega arith) (omega arith) in
    run_on_value epicycles c.args.n c.args.d place (read w64 (to_z w64 place -ℤ pos lift))
    (lifted_known c.ranges.n c.ranges.d c.lifted_at.ensures.0 c.in_ok-place.was) down.is

pub returns-in_err-place : goal.returns-in_err-place
returns-in_err-place c =
    passed_up (λ z. z) c.from_residual.result c.in_err-place.field-0.0 c.from_residual.ensures.1
    ∙ run_on_refused epicycles c.args.n c.args.d (number_of c.in_err-place.field-0.0)
    (lifted_known c.ranges.n c.ranges.d c.lifted_at.ensures.0 c.in_err-place.was)
