-- The size at the anomaly, signed by its side; a refusal is passed on. Assumes nothing.
use Rattle.std.proofs.Common.{◌≡◌, ap, ◌∙◌, arith, w64}
use mir.Facts.{to_z-of_z, to_z_pos}
use Rattle.reasoning.specs.Answer.{value}
use Rattle.law.specs.Document.{epicycles, in_circle}
use Rattle.units.specs.Said.{number_of}
use Rattle.units.proofs.Machine.{negated}
use Rattle.sun.proofs.PassedUp.{passed_up}
use Rattle.sun.proofs.equation.Equations.{equation_added, equation_taken, equation_refused}
use Rattle.sun.proofs.equation.equation_at.Goals as goal

pub returns-then-a-lt-HALF : goal.returns-then-a-lt-HALF
returns-then-a-lt-HALF c =
    let a = c.in_circle-a.result in
    let brought : a ≡ in_circle c.args.anomaly = c.in_circle-a.ensures.0 ∙ ap in_circle (to_z-of_z c.ranges.anomaly) in
    let said = c.in_ok-size.ensures in
    ap value (to_z_pos w64 (omega (arith, said.1)))
    ∙ equation_added epicycles a c.args.anomaly brought c.in_ok-size.field-0 said.0 c.if-a-lt-HALF.true

pub returns : goal.returns
returns c =
    let a = c.in_circle-a.result in
    let brought : a ≡ in_circle c.args.anomaly = c.in_circle-a.ensures.0 ∙ ap in_circle (to_z-of_z c.ranges.anomaly) in
    let said = c.in_ok-size.ensures in
    ap value (negated w64 c.in_ok-size.field-0 (omega (arith, said.1))).is
    ∙ equation_taken epicycles a c.args.anomaly brought c.in_ok-size.field-0 said.0 c.if-a-lt-HALF.false

pub returns-in_err-size : goal.returns-in_err-size
returns-in_err-size c =
    let a = c.in_circle-a.result in
    let brought : a ≡ in_circle c.args.anomaly = c.in_circle-a.ensures.0 ∙ ap in_circle (to_z-of_z c.ranges.anomaly) in
    passed_up (λ z. z) c.from_residual.result c.in_err-size.field-0.0 c.from_residual.ensures.1
    ∙ equation_refused epicycles a c.args.anomaly brought (number_of c.in_err-size.field-0.0) c.in_err-size.ensures.0
