-- The lifted mean place, brought into the circle, is the document's; a refusal is passed on. Assumes nothing.
use Rattle.std.proofs.Common.{◌+◌, ◌*◌, ◌-◌, ◌%◌, ap, ◌∙◌, arith}
use Rattle.reasoning.specs.Answer.{value}
use Rattle.law.specs.Document.{circle, daily_motion, in_circle, mean_place, mean_answer}
use Rattle.motion.proofs.Root.{root_of_le}
use Rattle.sun.proofs.PassedUp.{passed_up}
use Rattle.sun.proofs.place.Places.{mean_value}
use Rattle.sun.proofs.place.Midnights.{midnight_known, midnight_refused}
use Rattle.sun.proofs.place.mean_place.Goals as goal

pub overflow_mul-result : goal.overflow_mul-result
overflow_mul-result c =
    let at = c.in_ok-at.at in
    record { fits = omega (arith, at.within, at.year.rooted, root_of_le at.year.y) }

pub overflow_add-result : goal.overflow_add-result
overflow_add-result c =
    let at = c.in_ok-at.at in
    record { fits = omega (arith, at.within, at.year.rooted, root_of_le at.year.y) }

pub overflow_add-result-2 : goal.overflow_add-result-2
overflow_add-result-2 c =
    let at = c.in_ok-at.at in
    record { fits = omega (arith, at.within, at.year.rooted, root_of_le at.year.y) }

pub returns : goal.returns
returns c =
    let i = midnight_known c.ranges.n c.ranges.d c.midnight_at.ensures c.in_ok-at.was in
    ap (λ r. value ((r + c.in_ok-at.at.day * daily_motion + (circle - 4 * daily_motion)) % circle)) c.in_ok-at.at.year.rooted ∙ mean_value c.args.n c.args.d i.0 i.1

pub returns-in_err-at : goal.returns-in_err-at
unfolding mean_answer
returns-in_err-at c =
    passed_up (λ n. n) c.from_residual.result c.in_err-at.field-0.0 c.from_residual.ensures.1
    ∙ midnight_refused c.ranges.n c.ranges.d c.midnight_at.ensures c.in_err-at.was (value (in_circle (mean_place c.args.n c.args.d)))
