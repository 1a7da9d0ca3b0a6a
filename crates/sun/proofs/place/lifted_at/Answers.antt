-- The place at a midnight in range; a refusal of its year or day is passed on. Assumes nothing.
use Rattle.std.proofs.Common.{◌∙◌, pos, ◌+ℤ◌}
use Rattle.std.proofs.lemmas.Result.{IfOk-from_err}
use lib.IntN.{nat_abs}
use Rattle.reasoning.specs.Answer.{value, refusing}
use Rattle.law.specs.Document.{epicycles, anomaly, run_on_place, off_table}
use Rattle.motion.specs.Working.{lift}
use Rattle.sun.specs.YearAndDay.{lifted_answer}
use Rattle.sun.proofs.PassedUp.{passed_up}
use Rattle.sun.proofs.place.Places.{lifted_place}
use Rattle.sun.proofs.place.Midnights.{midnight_known, midnight_refused}
use Rattle.sun.proofs.place.lifted_at.Goals as goal

pub returns : goal.returns
returns c =
    let i = midnight_known c.ranges.n c.ranges.d c.midnight_at.ensures c.in_ok-at.was in
    (c.lifted_place.ensures.0 ∙ lifted_place c.args.n c.args.d i.0 i.1 epicycles, c.lifted_place.ensures.1)

pub returns-in_err-at : goal.returns-in_err-at
unfolding lifted_answer
returns-in_err-at c =
    let rest = refusing (off_table epicycles (anomaly c.args.n c.args.d)) 5 (value (nat_abs (run_on_place epicycles c.args.n c.args.d +ℤ pos lift))) in (
      passed_up (λ n. n) c.from_residual.result c.in_err-at.field-0.0 c.from_residual.ensures.1
          ∙ midnight_refused c.ranges.n c.ranges.d c.midnight_at.ensures c.in_err-at.was rest,
      IfOk-from_err c.from_residual.result _ c.from_residual.ensures.0,
    )
