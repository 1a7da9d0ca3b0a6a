-- Document 01, "Proved and compared": its table of marked cases as one statement, over the definitions that the contracts cite.
-- And its table of constants: what it gives in two ways is one number. Assumes nothing.
use mathlib.Core.Path.{◌≡◌, refl}
use Prim.Native.Nat.{◌+◌, ◌*◌, ◌/◌}
use lib.IntN.{pos, neg_ℤ}
use Rattle.law.specs.Sines.{sines}
use Rattle.law.specs.Tangents.{tangents}
use Rattle.law.specs.Entry.{sine_entry, tangent_entry}
use Rattle.law.specs.Round.{half_up, half_up_on_size, floor_div, floor_mod}
use Rattle.law.specs.Document.{second, minute, degree, circle, day, year_length, daily_motion, perigee_yearly, perigee_daily, perigee_epoch, epicycles, solstice, day_name, fraction, root, mirrored, folded, between, sine, cosine, height, base, long_side, tangent, last_minute, angle_past, angle, equation, clock_of_arc, local_minutes, local_day, local_minute}

pub record Marked : Type 0 where
  pub year_0 : (fraction (pos 0) ≡ 656_374_926) × (root (pos 0) ≡ 73_157_720_187)
  pub year_1 : (day_name (neg_ℤ (pos 1)) ≡ 2) × (fraction (neg_ℤ (pos 1)) ≡ 414_187_426)
  pub year_676 : day_name (neg_ℤ (pos 676)) ≡ 3
  pub at_0 : equation epicycles 0 ≡ pos 0
  pub at_180 : equation epicycles (180 * degree) ≡ pos 0
  pub sides_30 : (height epicycles (30 * degree) ≡ 89_604) × (base epicycles (30 * degree) ≡ 155_199)
  pub at_30 : (tangent epicycles (30 * degree) ≡ 182_033) × (equation epicycles (30 * degree) ≡ pos 225_257_319_587)
  pub at_330 : equation epicycles (330 * degree) ≡ neg_ℤ (pos 225_257_319_587)
  pub at_90 : (tangent epicycles (90 * degree) ≡ 358_416) × (equation epicycles (90 * degree) ≡ pos 443_382_080_329)
  pub at_270 : equation epicycles (270 * degree) ≡ neg_ℤ (pos 443_382_080_329)
  pub at_140 : (tangent epicycles (140 * degree) ≡ 227_266) × (equation epicycles (140 * degree) ≡ pos 281_213_195_876)
  pub east : (local_day (pos 10) 1_435 (pos 13_284) ≡ pos 11) × (local_minute (pos 10) 1_435 (pos 13_284) ≡ 9)
  pub west : (local_day (pos 10) 0 (neg_ℤ (pos 12_795)) ≡ pos 9) × (local_minute (pos 10) 0 (neg_ℤ (pos 12_795)) ≡ 1_425)

pub marked : Marked
unfolding solstice day_name fraction root floor_div floor_mod half_up mirrored folded sines tangents sine_entry tangent_entry between sine cosine height base long_side tangent last_minute angle_past angle equation half_up_on_size clock_of_arc local_minutes local_day local_minute
marked =
    record {
      year_0 = (refl, refl);
      year_1 = (refl, refl);
      year_676 = refl;
      at_0 = refl;
      at_180 = refl;
      sides_30 = (refl, refl);
      at_30 = (refl, refl);
      at_330 = refl;
      at_90 = (refl, refl);
      at_270 = refl;
      at_140 = (refl, refl);
      east = (refl, refl);
      west = (refl, refl);
    }

-- seconds with their decimals are units; 10‴ are a sixth of a second; 360 degrees are the circle; 1,296,000″ divided by the year, cut
-- off at seven decimals, are the daily motion
pub record Constants : Type 0 where
  pub circle_both : circle ≡ 77_760_000_000_000
  pub circle_degrees : circle ≡ 360 * degree
  pub year_decimals : year_length * 10_000_000 ≡ 3_652_421_875 * day
  pub daily_both : daily_motion * 10_000_000 ≡ 35_483_305_169 * second
  pub daily_quotient : daily_motion * 10_000_000 ≡ (1_296_000 * 10_000_000 * day / year_length) * second
  pub yearly_both : perigee_yearly * 100_000 ≡ 6_116_666 * second
  pub perigee_both : perigee_daily * 1_000_000 ≡ 167_469 * second
  pub epoch_both : perigee_epoch * 60 ≡ (7 * degree + 10 * minute + 11 * second) * 60 + 10 * second
  pub difference : epicycles ≡ 179_208

pub constants : Constants
constants =
    record {
      circle_both = refl;
      circle_degrees = refl;
      year_decimals = refl;
      daily_both = refl;
      daily_quotient = refl;
      yearly_both = refl;
      perigee_both = refl;
      epoch_both = refl;
      difference = refl;
    }

-- exactly a half: up; below 0, away from 0 on the size; and a quotient below 0 is rounded down
pub record Halves : Type 0 where
  pub up : half_up 1 2 ≡ 1
  pub size : half_up_on_size (neg_ℤ (pos 1)) 2 ≡ neg_ℤ (pos 1)
  pub down : floor_div (neg_ℤ (pos 1)) 60 ≡ neg_ℤ (pos 1)
  pub never_sixty : floor_mod (neg_ℤ (pos 60)) 60 ≡ 0

pub halves : Halves
unfolding half_up half_up_on_size floor_div floor_mod
halves = record { up = refl; size = refl; down = refl; never_sixty = refl }
