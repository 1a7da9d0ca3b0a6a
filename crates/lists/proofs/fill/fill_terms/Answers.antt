-- A list that is too short is refused after the year; else the year worked out decides. Assumes nothing.
use Rattle.std.proofs.Common.{sym, subst}
use lib.ListN.{length}
use mir.Facts.{to_z-of_z}
use Rattle.std.proofs.lemmas.Result.{err_from_is_err_and}
use Rattle.law.specs.Document.{epicycles, fill_answer}
use Rattle.lists.specs.Fill.{Fills}
use Rattle.lists.proofs.ListFilled.{list_kept, fill_short, fill_refused}
use Rattle.lists.proofs.fill.fill_terms.Goals as goal

pub returns-in_default : goal.returns-in_default
returns-in_default c = rw (c.no_room.ensures, to_z-of_z c.ranges.n) (fill_short epicycles c.args.n c.args.list.now c.in_default.ensures.cases)

pub returns-in_err-terms : goal.returns-in_err-terms
returns-in_err-terms c =
    let p = err_from_is_err_and c.from_residual.result c.from_residual.ensures.1 in
    let l = c.args.list.now in
    subst (λ kept. Fills (fill_answer epicycles c.args.n (length l)) l kept c.from_residual.result) (sym (list_kept l c.in-Some.ensures.cases.same))
    (rw (p.1, p.2) (fill_refused epicycles c.args.n l c.in-Some.ensures.cases.enough c.ranges.n c.work_year.ensures c.in_err-terms.was))
