-- Half up on the size, and the sign again. Assumes nothing.
use Rattle.std.proofs.Common.{◌≡◌, ℕ, suc, ◌+◌, ◌/◌, ◌^◌, ◌≤◌, ap, sym, ◌∙◌, arith, rules, ℤ, pos, w64, to_z, of_z}
use lib.IntN.{nat_abs, neg_ℤ}
use mir.Val.{SFits}
use mir.Facts.{to_z-of_z, to_z_pos}
use Rattle.law.specs.Round.{half_up}
use Rattle.law.specs.Document.{clock_of_arc}
use Rattle.units.proofs.Clock.{fifteenth, clock_east, clock_west}
use Rattle.units.proofs.Machine.{size_le, negative, positive, negated}
use Rattle.units.proofs.seconds.ArcSeconds.to_clock.Goals as goal

-- what `size` and `half_up` said of the arc z: `size` was handed the machine's reading of it
record Halved (z : ℤ) (size clock : ℕ) : Type 0 where
  fits : SFits w64 z
  sized : size ≡ nat_abs z
  is : clock ≡ (size + 7) / 15
  most : clock ≤ 2 ^ 60

halved : (z : ℤ) (size clock : ℕ) → SFits w64 z → size ≡ nat_abs (to_z w64 (of_z w64 z)) → clock ≡ half_up size 15 → Halved z size clock
halved z size clock f s h =
    let e : size ≡ nat_abs z = s ∙ ap nat_abs (to_z-of_z f) in
    let q : clock ≡ (size + 7) / 15 = h ∙ fifteenth size in
    record { fits = f; sized = e; is = q; most = omega (arith, size_le f) }

pub overflow_cast-clock : goal.overflow_cast-clock
overflow_cast-clock c =
    let h = halved c.args.self.0 c.size.result c.half_up-clock.result (search rules) c.size.ensures c.half_up-clock.ensures in
    record { sfits = omega (arith, h.most) }

pub overflow_sub-result : goal.overflow_sub-result
overflow_sub-result c =
    let h = halved c.args.self.0 c.size.result c.half_up-clock.result (search rules) c.size.ensures c.half_up-clock.ensures in
    (negated w64 c.half_up-clock.result (omega (arith, h.most))).fits

pub returns-then-arc-lt0 : goal.returns-then-arc-lt0
returns-then-arc-lt0 c =
    let h = halved c.args.self.0 c.size.result c.half_up-clock.result (search rules) c.size.ensures c.half_up-clock.ensures in
    let w = negative h.fits c.if-arc-lt0.true in
    let e : c.size.result ≡ suc w.short = h.sized ∙ ap nat_abs w.is in
    (negated w64 c.half_up-clock.result (omega (arith, h.most))).is
    ∙ (ap (λ m. neg_ℤ (pos m)) h.is ∙ (ap (λ m. neg_ℤ (pos ((m + 7) / 15))) e ∙ (sym (clock_west w.short) ∙ ap clock_of_arc (sym w.is))))

pub returns : goal.returns
returns c =
    let h = halved c.args.self.0 c.size.result c.half_up-clock.result (search rules) c.size.ensures c.half_up-clock.ensures in
    let w = positive h.fits c.if-arc-lt0.false in
    let e : c.size.result ≡ w.long = h.sized ∙ ap nat_abs w.is in
    to_z_pos w64 (omega (arith, h.most))
    ∙ (ap pos h.is ∙ (ap (λ m. pos ((m + 7) / 15)) e ∙ (sym (clock_east w.long) ∙ ap clock_of_arc (sym w.is))))
