-- Each turn puts the next term in its place, so that the list is the terms in order. Assumes nothing.
use Rattle.std.proofs.Common.{◌≡◌, refl, ◌∙◌, subst, rules, arith}
use lib.ListN.{length-set}
use Rattle.law.specs.Document.{epicycles}
use Rattle.reasoning.proofs.Answers.{same_value, never}
use Rattle.reasoning.proofs.InOrder.{FilledTo, filled_none, filled_more, filled_all}
use Rattle.motion.specs.Working.{term_of}
use Rattle.sun.specs.Said.{values_of_term}
use Rattle.sun.specs.Worked.{zero_record}
use Rattle.sun.proofs.worked_year.put_terms.Goals as goal

pub loop-k-init : goal.loop-k-init
loop-k-init c = (search rules, filled_none values_of_term (term_of epicycles c.args.counted.y) zero_record _)

pub loop-k-preserved : goal.loop-k-preserved
loop-k-preserved c =
    let l = c.loop-k in
    let term = c.in_ok-terms.field-0 in (
      length-set l.terms l.k term ∙ l.invariant.0,
      filled_more values_of_term (term_of epicycles c.args.counted.y) zero_record l.terms l.k term l.invariant.1 (omega (arith, l.invariant.0)) (same_value c.in_ok-terms.ensures),
    )

pub returns : goal.returns
returns c =
    let l = c.loop-k in
    let e : l.k ≡ 24 = omega arith in (
      refl,
      filled_all values_of_term (term_of epicycles c.args.counted.y) zero_record l.terms 24 l.invariant.0
          (subst (FilledTo values_of_term (term_of epicycles c.args.counted.y) zero_record l.terms) e l.invariant.1),
    )

pub returns-in_err-terms : goal.returns-in_err-terms
returns-in_err-terms c = absurd (never c.in_err-terms.ensures)
