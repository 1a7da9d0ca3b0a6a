-- What is printed of the search's find is the document's term. Assumes nothing.
use Rattle.std.proofs.Common.{ap, ◌∙◌, arith}
use mir.Facts.{to_z-of_z}
use Rattle.reasoning.specs.Answer.{value, part}
use Rattle.law.specs.Document.{epicycles}
use Rattle.motion.specs.Working.{find_answer, print_of}
use Rattle.motion.proofs.TermAnswers.{term_answered}
use Rattle.sun.specs.Said.{values_of_term}
use Rattle.sun.proofs.PassedUp.{passed_up}
use Rattle.sun.proofs.term.term_of.Goals as goal

pub returns : goal.returns
returns c =
    let found = c.in_ok-found.ensures ∙ ap (λ n. find_answer epicycles n c.args.k) (to_z-of_z c.ranges.n) in
    ap value c.printed.ensures ∙ (ap (part print_of) found ∙ term_answered epicycles (omega arith) c.args.n c.args.k)

pub returns-in_err-found : goal.returns-in_err-found
returns-in_err-found c =
    let found = c.in_err-found.ensures ∙ ap (λ n. find_answer epicycles n c.args.k) (to_z-of_z c.ranges.n) in
    passed_up values_of_term c.from_residual.result c.in_err-found.field-0.0 c.from_residual.ensures.1
    ∙ (ap (part print_of) found ∙ term_answered epicycles (omega arith) c.args.n c.args.k)
