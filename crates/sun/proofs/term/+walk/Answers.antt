-- The walk is the definition's: past the mark it ends here, else one midnight further with one fewer left. A refusal never comes.
-- Assumes nothing.
use Rattle.std.proofs.Common.{◌≡◌, ℕ, ◌≤◌, ◌<◌, ap, ◌∙◌, arith}
use Rattle.reasoning.specs.Answer.{value}
use Rattle.law.specs.Document.{epicycles}
use Rattle.motion.specs.Working.{place_answer}
use Rattle.motion.proofs.Finds.{place_known, place_given, Here, here, On, on}
use Rattle.sun.specs.Walks.{Underway}
use Rattle.sun.proofs.term.+walk.Goals as goal

-- what `lifted_place` said: p is the place at j, past the mark or not
past : {y mark left j before count p : ℕ} (u : Underway y mark left j before count) (e : value p ≡ place_answer epicycles y j)
    → mark < p → Here y mark left j before count p (place_known y j e) u.some u.behind u.known
past {y} {mark} {left} {j} {before} {count} {p} u e = here y mark left j before count p (place_known y j e) u.some u.behind u.known

further : {y mark left j before count p : ℕ} (u : Underway y mark left j before count) (e : value p ≡ place_answer epicycles y j)
    → p ≤ mark → On y mark left j before count p (place_known y j e) u.some u.behind u.known
further {y} {mark} {left} {j} {before} {count} {p} u e = on y mark left j before count p (place_known y j e) u.some u.behind u.known u.reached

pub overflow_sub-result : goal.overflow_sub-result
overflow_sub-result t c = (past c.requires c.in_ok-place.ensures.0 c.if-mark-place.true).first

pub invariant_of-result : goal.invariant_of-result
invariant_of-result t c =
    let u = c.requires in
    let h = past u c.in_ok-place.ensures.0 c.if-mark-place.true in
    record {
      within = omega (arith, u);
      short = omega (arith, u.behind, c.if-mark-place.true, h.rises);
      longest = omega (arith, h.near);
    }

pub returns-then-mark-place : goal.returns-then-mark-place
returns-then-mark-place t c = ap value (past c.requires c.in_ok-place.ensures.0 c.if-mark-place.true).is

pub walk-requires : goal.walk-requires
walk-requires t c =
    let u = c.requires in
    let f = further u c.in_ok-place.ensures.0 c.if-mark-place.false in (
      omega (arith, c.decreases, u.some),
      record {
        some = omega (arith, f.more);
        days = omega (arith, u.days, f.more);
        most = omega (arith, u.most, f.more);
        reached = f.past;
        behind = c.if-mark-place.false;
        known = f.own;
      },
    )

pub returns : goal.returns
returns t c =
    let f = further c.requires c.in_ok-place.ensures.0 c.if-mark-place.false in
    c.walk.ensures ∙ ap value f.is

pub returns-in_err-place : goal.returns-in_err-place
returns-in_err-place t c = absurd (place_given c.args.year.y c.args.j c.in_err-place.ensures.0)
