-- The minute is found at t / 2,914 or one further, by the tangent's step rule; refusal 5 exactly past the last entry. Assumes nothing.
use Rattle.std.proofs.Common.{◌≡◌, ℕ, ◌+◌, ◌/◌, ◌<◌, ◌≤◌, ap, sym, ◌∙◌, List, get_or, arith}
use Rattle.reasoning.specs.Answer.{value}
use Rattle.law.specs.Entry.{last_tangent, tangent_entry}
use Rattle.law.specs.Tangents.{tangents}
use Rattle.law.proofs.Rules.{tangent_range}
use Rattle.tables.proofs.Entries.{tangent_read}
use Rattle.sun.proofs.equation.AngleAnswers.{seat, angle_refused, angle_last, angle_inside}
use Rattle.sun.proofs.equation.TangentTable.angle_of.Goals as goal

-- one further, where t reaches the entry after the seat's
further : (l : List ℕ) (t : ℕ) → l ≡ tangents → t < tangent_entry last_tangent → get_or l (t / 2_914 + 1) 0 ≤ t
    → (t / 2_914 + 1 < last_tangent) × (t < tangent_entry (t / 2_914 + 2))
further l t e h g = (seat t h).next (omega (arith, tangent_read e (t / 2_914 + 1)))

pub returns-then-last-t : goal.returns-then-last-t
returns-then-last-t c = (angle_refused c.args.t (omega (arith, tangent_read c.args.self.laid last_tangent)), tt)

pub returns-then-t-last : goal.returns-then-t-last
returns-then-t-last c = (angle_last c.args.t (omega (arith, tangent_read c.args.self.laid last_tangent)), omega arith)

pub bounds-self-k : goal.bounds-self-k
bounds-self-k c =
    let here = seat c.args.t (omega (arith, tangent_read c.args.self.laid last_tangent)) in
    omega (arith, here.small)

pub bounds-self-k-then-t-above : goal.bounds-self-k-then-t-above
bounds-self-k-then-t-above c =
    let here = seat c.args.t (omega (arith, tangent_read c.args.self.laid last_tangent)) in
    omega (arith, here.small)

pub part-requires : goal.part-requires
part-requires c =
    let m = c.args.t / 2_914 in
    let e = c.args.self.laid in
    let here = seat c.args.t (omega (arith, tangent_read e last_tangent)) in (
      here.small,
      omega (arith, tangent_read e m, here.reached),
      c.if-t-above.true,
      omega (arith, tangent_read e (m + 1), tangent_range (m + 1) (omega (arith, here.small))),
    )

pub returns-then-t-above : goal.returns-then-t-above
returns-then-t-above c =
    let t = c.args.t in
    let m = t / 2_914 in
    let e = c.args.self.laid in
    let here = seat t (omega (arith, tangent_read e last_tangent)) in (
      ap value c.part.ensures.0
          ∙ angle_inside t m _ _ here.small (tangent_read e m) (tangent_read e (m + 1)) (omega (arith, tangent_read e m, here.reached)) c.if-t-above.true,
      c.part.ensures.1,
    )

pub bounds-self-k-2 : goal.bounds-self-k-2
bounds-self-k-2 c =
    let f = further c.args.self.entries.now c.args.t c.args.self.laid (omega (arith, tangent_read c.args.self.laid last_tangent)) c.if-t-above.false in
    omega (arith, f.0)

pub part-requires-2 : goal.part-requires-2
part-requires-2 c =
    let m = c.args.t / 2_914 in
    let e = c.args.self.laid in
    let f = further c.args.self.entries.now c.args.t e (omega (arith, tangent_read e last_tangent)) c.if-t-above.false in (
      f.0,
      c.if-t-above.false,
      omega (arith, tangent_read e (m + 2), f.1),
      omega (arith, tangent_read e (m + 2), tangent_range (m + 2) (omega (arith, f.0))),
    )

pub returns : goal.returns
returns c =
    let t = c.args.t in
    let m = t / 2_914 in
    let e = c.args.self.laid in
    let f = further c.args.self.entries.now t e (omega (arith, tangent_read e last_tangent)) c.if-t-above.false in
    let i : m + 1 + 1 ≡ m + 2 = omega arith in (
      ap value c.part-2.ensures.0
          ∙ angle_inside t (m + 1) _ _ f.0 (tangent_read e (m + 1)) (tangent_read e (m + 2) ∙ ap tangent_entry (sym i)) c.if-t-above.false
          (omega (arith, tangent_read e (m + 2), f.1)),
      c.part-2.ensures.1,
    )
