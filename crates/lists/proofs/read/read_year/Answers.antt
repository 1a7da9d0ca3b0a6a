-- A list that is too short is refused; else the year by value decides. Assumes nothing.
use Rattle.std.proofs.Common.{sym, subst}
use Rattle.std.proofs.lemmas.Result.{err_from_is_err_and}
use Rattle.lists.specs.Read.{ListRead}
use Rattle.lists.proofs.ListFilled.{list_kept}
use Rattle.lists.proofs.ReadAnswers.{short_list, list_unsound}
use Rattle.lists.proofs.read.read_year.Goals as goal

pub returns-in_default : goal.returns-in_default
returns-in_default c = short_list c.args.bytes.now c.args.list.now c.in_default.ensures.cases

pub returns-in_err-end : goal.returns-in_err-end
returns-in_err-end c =
    let p = err_from_is_err_and c.from_residual.result c.from_residual.ensures.1 in
    let l = c.args.list.now in
    subst (λ kept. ListRead c.args.bytes.now l kept c.from_residual.result) (sym (list_kept l c.in-Some.ensures.cases.same))
    (rw (p.1, p.2) (list_unsound c.args.bytes.now l c.in-Some.ensures.cases.enough _ c.in_err-end.ensures))
