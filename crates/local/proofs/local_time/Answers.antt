-- Each refusal is the document's, in its order; the clock seconds from day -5 on, shifted, are its local time. Assumes nothing.
use Rattle.std.proofs.Common.{◌≡◌, ap₂, sym, ◌∙◌, subst, true, false, ◌≤◌, arith, pos, w64}
use lib.IntN.{nat_abs, ◌+ℤ◌}
use mir.Val.{SFits}
use mir.Facts.{to_z-of_z}
use borrow.Author.Rules.{sfits_of}
use Rattle.law.specs.Document.{bad_longitude}
use Rattle.units.proofs.Callers.{day_known}
use Rattle.local.proofs.LocalTime.{half_a_day, local_bad_longitude, local_is}
use Rattle.local.proofs.local_time.Goals as goal

pub returns-then-arc-ltminus648000 : goal.returns-then-arc-ltminus648000
returns-then-arc-ltminus648000 c =
    let fits : SFits w64 c.seconds-arc.result = sfits_of c.seconds-arc.type_inv in
    let held : bad_longitude c.seconds-arc.result ≡ true = grind (arith, to_z-of_z) in
    local_bad_longitude c.args.day c.args.minute c.args.longitude.0 (day_known c.ranges.day c.day_index.ensures c.in_ok-j.was)
    (omega arith) (subst (λ z. bad_longitude z ≡ true) c.seconds-arc.ensures held)

pub seconds_at-here-requires : goal.seconds_at-here-requires
seconds_at-here-requires c = ((day_known c.ranges.day c.day_index.ensures c.in_ok-j.was).most, (omega arith))

pub shifted-there-requires : goal.shifted-there-requires
shifted-there-requires c =
    let within : bad_longitude c.args.longitude.0 ≡ false = subst (λ z. bad_longitude z ≡ false) c.seconds-arc.ensures (grind (arith, to_z-of_z)) in
    let h = day_known c.ranges.day c.day_index.ensures c.in_ok-j.was in (
      omega arith,
      omega arith,
      subst (λ z. nat_abs z ≤ 43_200) (sym c.to_clock-clock.ensures) (half_a_day c.args.longitude.0 within),
    )

pub returns : goal.returns
returns c =
    let within : bad_longitude c.args.longitude.0 ≡ false = subst (λ z. bad_longitude z ≡ false) c.seconds-arc.ensures (grind (arith, to_z-of_z)) in
    local_is c.args.day c.args.minute c.args.longitude.0 (day_known c.ranges.day c.day_index.ensures c.in_ok-j.was) c.shifted-there.result (omega arith) within
    (c.shifted-there.ensures.0 ∙ ap₂ (λ h z. pos h +ℤ z) c.seconds_at-here.ensures.0 c.to_clock-clock.ensures)
    (to_z-of_z {w = w64} (sfits_of c.day_at.type_inv) ∙ c.day_at.ensures)
