-- The year worked out is always one that may be written; its refusal is the writer's. Assumes nothing.
use Rattle.std.proofs.Common.{ap, sym, ◌∙◌, arith}
use mir.Facts.{to_z-of_z}
use Rattle.std.proofs.lemmas.Result.{err_from_is_err_and}
use Rattle.reasoning.specs.Answer.{value, refused}
use Rattle.law.specs.Document.{epicycles}
use Rattle.units.specs.Said.{number_of}
use Rattle.units.specs.IndexAnswers.{no_room}
use Rattle.values.proofs.WorkedFits.{worked_fits}
use Rattle.values.proofs.WriteAnswers.{tell_refused, tell_done}
use Rattle.values.proofs.worked_year.WorkedAnswers.{worked_told, worked, worked_6, worked_refused, worked_done}
use Rattle.values.proofs.worked_year.write_year.Goals as goal

pub returns-then-buf-lt149 : goal.returns-then-buf-lt149
returns-then-buf-lt149 c =
    let b = c.args.buf.now in
    let short = c.no_room.ensures ∙ ap no_room (to_z-of_z c.ranges.n) in
    tell_refused b (worked_6 epicycles c.args.n b (omega arith) ∙ ap (λ r. refused (number_of r)) (sym short))

pub returns-in_err-worked : goal.returns-in_err-worked
returns-in_err-worked c =
    let p = err_from_is_err_and c.from_residual.result c.from_residual.ensures.1 in
    let b = c.args.buf.now in
    rw (p.1, p.2) (tell_refused b (worked_refused epicycles c.args.n b (omega arith) (worked_told epicycles _ c.ranges.n c.in_err-worked.ensures)))

pub put_year-requires : goal.put_year-requires
put_year-requires c =
    let n = c.args.n in
    let w = worked epicycles n (worked_told epicycles _ c.ranges.n c.in_ok-worked.ensures) in
    rw (to_z-of_z c.ranges.n, w.is) (omega arith, w.year, worked_fits epicycles (omega arith) n w.year)

pub returns : goal.returns
returns c =
    let b = c.args.buf.now in
    let n = c.args.n in
    let w = worked epicycles n (worked_told epicycles _ c.ranges.n c.in_ok-worked.ensures) in
    let bytes = rw (to_z-of_z c.ranges.n, w.is) at c.put_year.ensures in
    tell_done b (worked_done epicycles n b (omega arith) w ∙ ap value (sym bytes))
