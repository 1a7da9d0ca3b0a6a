-- The years left give the verdict at each turn, once the book is found sound. Assumes nothing.
use Rattle.std.proofs.Common.{sym, ap, arith}
use Rattle.std.proofs.lemmas.Result.{err_from_is_err_and}
use Rattle.law.specs.Document.{epicycles}
use Rattle.book.proofs.BookSteps.{is_sound}
use Rattle.verify.proofs.Ours.{refused_first}
use Rattle.verify.proofs.Turns.{at_start, its_turn, its_part, goes_on, stands, at_end}
use Rattle.verify.proofs.verify_book.Goals as goal

pub returns-in_err-check_book : goal.returns-in_err-check_book
returns-in_err-check_book c =
    let p = err_from_is_err_and c.from_residual.result c.from_residual.ensures.1 in
    rw (p.1, p.2) (sym (refused_first epicycles (omega arith) c.args.book.now _ _ (sym c.in_err-check_book.ensures)))

pub loop-i-init : goal.loop-i-init
loop-i-init c = at_start epicycles c.args.book.now _ _ _ (ap is_sound (sym c.in_ok-check_book.ensures)) (cc) (cc) (cc)

pub year_verdict-requires : goal.year_verdict-requires
year_verdict-requires c =
    let s = c.args.book.now in
    let steps = c.in-Some.ensures.steps in
    let t = its_turn epicycles s _ _ _ _ _ c.loop-i.invariant steps.0.1.0 steps.0.1.1 in
    let p = its_part epicycles s _ _ _ _ _ c.loop-i.invariant steps.0.1.0 steps.0.1.1 in
    (omega (arith, t.room, steps.1), omega (arith, steps.0.1.1, c.loop-i.invariant.long), rw p t.kind, rw p t.number)

pub returns-in-Some-year_verdict : goal.returns-in-Some-year_verdict
returns-in-Some-year_verdict c =
    let steps = c.in-Some.ensures.steps in
    stands epicycles c.args.book.now _ _ _ _ _ c.loop-i.invariant steps.0.1.0 steps.0.1.1 c.in-Some-year_verdict.byte
    (rw steps.1 at c.in-Some-year_verdict.ensures)

pub loop-i-preserved : goal.loop-i-preserved
loop-i-preserved c =
    let steps = c.in-Some.ensures.steps in
    goes_on epicycles c.args.book.now _ _ _ _ _ c.loop-i.invariant steps.0.1.0 steps.0.1.1 _ _ steps.0.0 steps.2
    (rw steps.1 at c.in_default.ensures)

pub returns : goal.returns
returns c = at_end epicycles c.args.book.now _ _ _ c.loop-i.invariant c.in-None.ensures.steps.0.1.0
