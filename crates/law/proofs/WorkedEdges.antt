-- Where a table, a quarter of the circle, a clock second or a day ends, from both sides: sines, angles, the equation, local times. The
-- rows are the independent program's (tests/worked_facts.py). Assumes nothing.
use mathlib.Core.Path.{◌≡◌, refl}
use lib.IntN.{pos, neg_ℤ}
use Rattle.law.specs.Sines.{sines}
use Rattle.law.specs.Tangents.{tangents}
use Rattle.law.specs.Entry.{sine_entry, tangent_entry}
use Rattle.law.specs.Round.{half_up, half_up_on_size, floor_div, floor_mod}
use Rattle.reasoning.specs.Answer.{value, refused}
use Rattle.law.specs.Document.{epicycles, solstice, fraction, root, mean_place, perigee, in_circle, anomaly, mirrored, folded, between, sine, cosine, height, base, long_side, tangent, last_minute, angle_past, angle, equation, run_on_place, equation_answer, clock_of_arc, local_minutes, local_day, local_minute, local_answer}
use Rattle.law.proofs.WorkedLimits.{there}

pub record WorkedEdges : Type 0 where
  -- entries 0 and 1 and the last of the sines; minutes 0, 1 and 130 of the tangents
  pub sine_0 : sine 0 ≡ 0
  pub sine_before_10 : sine 35_999_999_999 ≡ 29_088
  pub sine_10 : sine 36_000_000_000 ≡ 29_089
  pub sine_before_90 : sine 19_439_999_999_999 ≡ 9_999_999
  pub sine_90 : sine 19_440_000_000_000 ≡ 10_000_000
  pub angle_0 : angle 0 ≡ 0
  pub angle_1 : angle 1 ≡ 1_237_538
  pub angle_2908 : angle 2_908 ≡ 3_598_762_461
  pub angle_2909 : angle 2_909 ≡ 3_600_000_000
  pub angle_378334 : angle 378_334 ≡ 467_998_764_160
  pub angle_378335 : angle 378_335 ≡ 468_000_000_000
  -- the equation a minute before and after each quarter; an anomaly given past the circle or below 0
  pub before_0 : equation_answer epicycles (neg_ℤ (pos 3_600_000_000)) ≡ value (neg_ℤ (pos 131_179_099))
  pub after_0 : equation_answer epicycles (pos 3_600_000_000) ≡ value (pos 131_179_099)
  pub before_90 : equation_answer epicycles (pos 19_436_400_000_000) ≡ value (pos 443_384_552_008)
  pub after_90 : equation_answer epicycles (pos 19_443_600_000_000) ≡ value (pos 443_379_608_650)
  pub before_180 : equation_answer epicycles (pos 38_876_400_000_000) ≡ value (pos 126_228_944)
  pub after_180 : equation_answer epicycles (pos 38_883_600_000_000) ≡ value (neg_ℤ (pos 126_228_944))
  pub before_270 : equation_answer epicycles (pos 58_316_400_000_000) ≡ value (neg_ℤ (pos 443_379_608_650))
  pub after_270 : equation_answer epicycles (pos 58_323_600_000_000) ≡ value (neg_ℤ (pos 443_384_552_008))
  pub at_360 : equation_answer epicycles (pos 77_760_000_000_000) ≡ value (pos 0)
  pub at_390 : equation_answer epicycles (pos 84_240_000_000_000) ≡ value (pos 225_257_319_587)
  pub at_30_below_0 : equation_answer epicycles (neg_ℤ (pos 6_480_000_000_000)) ≡ value (neg_ℤ (pos 225_257_319_587))
  -- a tangent of 378,335 is the last entry, 378,336 is refused
  pub last_entry : equation_answer 189_134 (pos 19_224_000_000_000) ≡ value (pos 468_000_000_000)
  pub past_the_last_entry : equation_answer 189_168 (pos 19_440_000_000_000) ≡ refused 5
  -- 7″ are no clock second, 8″ are one
  pub clock_east_7 : clock_of_arc (pos 7) ≡ pos 0
  pub clock_west_7 : clock_of_arc (neg_ℤ (pos 7)) ≡ pos 0
  pub clock_east_8 : clock_of_arc (pos 8) ≡ pos 1
  pub clock_west_8 : clock_of_arc (neg_ℤ (pos 8)) ≡ neg_ℤ (pos 1)
  pub clock_east_22 : clock_of_arc (pos 22) ≡ pos 1
  pub clock_west_22 : clock_of_arc (neg_ℤ (pos 22)) ≡ neg_ℤ (pos 1)
  pub clock_east_23 : clock_of_arc (pos 23) ≡ pos 2
  pub clock_west_23 : clock_of_arc (neg_ℤ (pos 23)) ≡ neg_ℤ (pos 2)
  -- day -5 and day 371; the last second of a day, and of a minute
  pub local_day_before : local_answer (neg_ℤ (pos 4)) 0 (neg_ℤ (pos 648_000)) ≡ value (there (neg_ℤ (pos 5)) 720)
  pub local_day_after : local_answer (pos 370) 1_439 (pos 648_000) ≡ value (there (pos 371) 719)
  pub local_second_before : local_answer (pos 0) 0 (neg_ℤ (pos 8)) ≡ value (there (neg_ℤ (pos 1)) 1_439)
  pub local_second_after : local_answer (pos 0) 1_439 (pos 892) ≡ value (there (pos 0) 1_439)
  pub local_minute_after : local_answer (pos 0) 1_439 (pos 893) ≡ value (there (pos 1) 0)

pub worked_edges : WorkedEdges
unfolding sines tangents sine_entry tangent_entry half_up floor_div floor_mod solstice fraction root mean_place perigee in_circle anomaly mirrored folded between sine cosine height base long_side tangent last_minute angle_past angle equation run_on_place equation_answer half_up_on_size clock_of_arc local_minutes local_day local_minute local_answer
worked_edges =
    record {
      sine_0 = refl;
      sine_before_10 = refl;
      sine_10 = refl;
      sine_before_90 = refl;
      sine_90 = refl;
      angle_0 = refl;
      angle_1 = refl;
      angle_2908 = refl;
      angle_2909 = refl;
      angle_378334 = refl;
      angle_378335 = refl;
      before_0 = refl;
      after_0 = refl;
      before_90 = refl;
      after_90 = refl;
      before_180 = refl;
      after_180 = refl;
      before_270 = refl;
      after_270 = refl;
      at_360 = refl;
      at_390 = refl;
      at_30_below_0 = refl;
      last_entry = refl;
      past_the_last_entry = refl;
      clock_east_7 = refl;
      clock_west_7 = refl;
      clock_east_8 = refl;
      clock_west_8 = refl;
      clock_east_22 = refl;
      clock_west_22 = refl;
      clock_east_23 = refl;
      clock_west_23 = refl;
      local_day_before = refl;
      local_day_after = refl;
      local_second_before = refl;
      local_second_after = refl;
      local_minute_after = refl;
    }
