-- Each refusal comes before any byte is stored; else head and terms are the year's bytes. Assumes nothing.
use Rattle.std.proofs.Common.{◌≡◌, ◌≤◌, List, ap, sym, ◌∙◌, length, rules, arith, w64}
use lib.ListN.{length-map}
use mir.Val.{SFits}
use Rattle.std.proofs.lemmas.Result.{err_from_is_err_and}
use Rattle.reasoning.specs.Answer.{value}
use Rattle.units.proofs.Callers.{year_known}
use Rattle.sun.specs.declared.term.TermRecord.{TermRecord}
use Rattle.sun.specs.Said.{values_of_term}
use Rattle.values.specs.declared.head.Head.{Head}
use Rattle.values.specs.Said.{given_year}
use Rattle.values.proofs.WriteAnswers.{tell_refused, tell_done, write_1, buffer_6, write_9, write_done}
use Rattle.values.proofs.write.write_values.Goals as goal

-- an array of 24, as its type tells
enough : (head : Head) (terms : List TermRecord) → length terms ≡ 24 → 24 ≤ length (given_year head terms).year_terms
enough head terms long = omega (arith, long, length-map terms values_of_term)

pub returns-in_err-year_index : goal.returns-in_err-year_index
returns-in_err-year_index c =
    let fits : SFits w64 c.args.head.n = search rules in
    let b = c.args.buf.now in
    let p = err_from_is_err_and c.from_residual.result c.from_residual.ensures.1 in
    rw (p.1, p.2) (tell_refused b (write_1 (given_year c.args.head c.args.terms) b fits c.year_index.ensures c.in_err-year_index.was))

pub returns-then-buf-lt149 : goal.returns-then-buf-lt149
returns-then-buf-lt149 c =
    let fits : SFits w64 c.args.head.n = search rules in
    let long : length c.args.terms ≡ 24 = search rules in
    let b = c.args.buf.now in
    tell_refused b
    (buffer_6 (given_year c.args.head c.args.terms) b (year_known fits c.year_index.ensures c.in_ok-year_index.was).test (enough c.args.head c.args.terms long) (omega arith))

pub returns-then-has_bad : goal.returns-then-has_bad
returns-then-has_bad c =
    let fits : SFits w64 c.args.head.n = search rules in
    let long : length c.args.terms ≡ 24 = search rules in
    let b = c.args.buf.now in
    let v = given_year c.args.head c.args.terms in
    tell_refused b
    (write_9 v b (year_known fits c.year_index.ensures c.in_ok-year_index.was).test (enough c.args.head c.args.terms long) (omega arith) (sym c.has_bad.ensures ∙ c.if-has_bad.true))

pub put_year-requires : goal.put_year-requires
put_year-requires c =
    let fits : SFits w64 c.args.head.n = search rules in
    (omega arith, (year_known fits c.year_index.ensures c.in_ok-year_index.was).test, sym c.has_bad.ensures ∙ c.if-has_bad.false)

pub returns : goal.returns
returns c =
    let fits : SFits w64 c.args.head.n = search rules in
    let long : length c.args.terms ≡ 24 = search rules in
    let b = c.args.buf.now in
    let v = given_year c.args.head c.args.terms in
    let good = sym c.has_bad.ensures ∙ c.if-has_bad.false in
    tell_done b
    (write_done v b (year_known fits c.year_index.ensures c.in_ok-year_index.was).test (enough c.args.head c.args.terms long) (omega arith) good
    ∙ ap value (sym c.put_year.ensures))
