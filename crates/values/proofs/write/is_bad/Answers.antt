-- A day has no count exactly where it may not be written. Assumes nothing.
use Rattle.std.proofs.Common.{◌≡◌, true, false, refl, sym, ◌∙◌, rules, w64}
use mir.Val.{SFits}
use Rattle.law.specs.Document.{bad_day}
use Rattle.values.proofs.EdgesTold.{day_refused}
use Rattle.values.proofs.write.is_bad.Goals as goal

pub returns-then-is_err : goal.returns-then-is_err
returns-then-is_err c =
    let f : SFits w64 c.args.term.now.day = search rules in
    let bad : bad_day c.args.term.now.day ≡ true = sym (day_refused f _ c.day_index.ensures) ∙ (sym c.is_err.ensures.value ∙ c.if-is_err.true) in
    rw (c.if-is_err.true, bad) refl

pub returns-else-is_err : goal.returns-else-is_err
returns-else-is_err c =
    let f : SFits w64 c.args.term.now.day = search rules in
    let good : bad_day c.args.term.now.day ≡ false = sym (day_refused f _ c.day_index.ensures) ∙ (sym c.is_err.ensures.value ∙ c.if-is_err.false) in
    rw good refl
