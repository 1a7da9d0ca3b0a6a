-- Terms by the independent program (tests/worked_facts.py): start, count, demand 3's day, the minute cut off, and the printed day and
-- minute, computed; and minutes and carries over made-up numbers, since no term of any year is exactly at half. And the walk over
-- places that are the days' own numbers, worked out by hand. Assumes nothing.
use mathlib.Core.Path.{◌≡◌, refl}
use mathlib.Core.Bool.{true, false}
use Prim.Native.Nat.{ℕ}
use lib.IntN.{ℤ, pos, neg_ℤ}
use lib.Signed.{lt_z}
use Rattle.law.specs.Sines.{sines}
use Rattle.law.specs.Tangents.{tangents}
use Rattle.law.specs.Entry.{sine_entry, tangent_entry}
use Rattle.law.specs.Round.{half_up, floor_div, floor_mod}
use Rattle.reasoning.specs.Answer.{value}
use Rattle.law.specs.Document.{epicycles, solstice, fraction, root, mean_place, perigee, in_circle, anomaly, mirrored, folded, between, sine, cosine, height, base, long_side, tangent, last_minute, angle_past, angle, equation, run_on_place, mark, start, count_from, count, term_day, gone_on, step_on, cut_off, cut_minute, rounded, rounded_minute, carried_minute, carried_day, printed_day, printed_minute, off_from, term_values, term_answer, CrossingValues, crossing_values, crossing_answer}
use Rattle.law.proofs.WorkedBooks.{the_term}

abbrev pub the_crossing : ℤ → ℕ → CrossingValues
the_crossing day minute = record { day_of_crossing = day; minute_of_crossing = minute }

pub record Worked (N : ℤ) (k : ℕ) (from : ℤ) (counted : ℕ) (day : ℤ) (cut : ℕ) (printed : ℤ) (minute : ℕ) : Type 0 where
  pub start_is : start N k ≡ from
  pub crossing_is : crossing_answer epicycles N k ≡ value (the_crossing day cut)
  pub term_is_lem : term_answer epicycles N k ≡ value (the_term printed minute counted)

pub record WorkedTerms : Type 0 where
  pub first : Worked (pos 0) 0 (neg_ℤ (pos 4)) 5 (neg_ℤ (pos 1)) 1_313 (neg_ℤ (pos 1)) 1_313
  pub least : Worked (neg_ℤ (pos 2_000)) 0 (neg_ℤ (pos 4)) 4 (neg_ℤ (pos 2)) 513 (neg_ℤ (pos 2)) 513
  pub most : Worked (pos 2_000) 23 (pos 346) 6 (pos 350) 1_106 (pos 350) 1_106
  pub backward : Worked (neg_ℤ (pos 676)) 5 (pos 73) 2 (pos 73) 1_425 (pos 73) 1_426
  pub longest : Worked (neg_ℤ (pos 1_900)) 16 (pos 239) 8 (pos 245) 105 (pos 245) 105
  pub carried_first : Worked (neg_ℤ (pos 255)) 0 (neg_ℤ (pos 4)) 5 (neg_ℤ (pos 1)) 1_439 (pos 0) 0
  pub carried_last : Worked (neg_ℤ (pos 1_556)) 22 (pos 331) 5 (pos 334) 1_439 (pos 335) 0
  pub nearest_past_half : Worked (neg_ℤ (pos 104)) 5 (pos 72) 3 (pos 73) 894 (pos 73) 895
  pub nearest_under_half : Worked (pos 527) 23 (pos 346) 6 (pos 350) 538 (pos 350) 538

pub worked_terms : WorkedTerms
unfolding sines tangents sine_entry tangent_entry half_up floor_div floor_mod solstice fraction root mean_place perigee in_circle anomaly mirrored folded between sine cosine height base long_side tangent last_minute angle_past angle equation run_on_place mark start count_from count term_day gone_on step_on cut_minute rounded_minute carried_minute carried_day printed_day printed_minute off_from term_values term_answer crossing_values crossing_answer
worked_terms =
    record {
      first = record { start_is = refl; crossing_is = refl; term_is_lem = refl };
      least = record { start_is = refl; crossing_is = refl; term_is_lem = refl };
      most = record { start_is = refl; crossing_is = refl; term_is_lem = refl };
      backward = record { start_is = refl; crossing_is = refl; term_is_lem = refl };
      longest = record { start_is = refl; crossing_is = refl; term_is_lem = refl };
      carried_first = record { start_is = refl; crossing_is = refl; term_is_lem = refl };
      carried_last = record { start_is = refl; crossing_is = refl; term_is_lem = refl };
      nearest_past_half = record { start_is = refl; crossing_is = refl; term_is_lem = refl };
      nearest_under_half = record { start_is = refl; crossing_is = refl; term_is_lem = refl };
    }

-- a mark so many units past a midnight that has so many to the next
pub record Minutes (gone step cut round : ℕ) : Type 0 where
  pub cut_is : cut_off gone step ≡ cut
  pub rounded_is : rounded gone step ≡ round

pub record Carried (day : ℤ) (minute : ℕ) (printed : ℤ) (left : ℕ) : Type 0 where
  pub day_is : carried_day day minute ≡ printed
  pub minute_is : carried_minute minute ≡ left

pub record Rounds : Type 0 where
  pub at_midnight : Minutes 0 2_880 0 0
  pub at_half : Minutes 1 2_880 0 1
  pub under_half : Minutes 1 2_881 0 0
  pub past_half : Minutes 1 2_879 0 1
  pub under_one : Minutes 1 1_441 0 1
  pub at_one_and_a_half : Minutes 3 2_880 1 2
  pub at_the_last : Minutes 2_878 2_880 1_439 1_439
  pub at_half_past_the_last : Minutes 2_879 2_880 1_439 1_440
  pub stays : Carried (pos 5) 1_439 (pos 5) 1_439
  pub carries : Carried (pos 5) 1_440 (pos 6) 0
  pub carries_to_day_0 : Carried (neg_ℤ (pos 1)) 1_440 (pos 0) 0
  pub carries_to_day_370 : Carried (pos 369) 1_440 (pos 370) 0
  pub stays_at_0 : Carried (pos 5) 0 (pos 5) 0

pub rounds : Rounds
unfolding half_up carried_minute carried_day
rounds =
    record {
      at_midnight = record { cut_is = refl; rounded_is = refl };
      at_half = record { cut_is = refl; rounded_is = refl };
      under_half = record { cut_is = refl; rounded_is = refl };
      past_half = record { cut_is = refl; rounded_is = refl };
      under_one = record { cut_is = refl; rounded_is = refl };
      at_one_and_a_half = record { cut_is = refl; rounded_is = refl };
      at_the_last = record { cut_is = refl; rounded_is = refl };
      at_half_past_the_last = record { cut_is = refl; rounded_is = refl };
      stays = record { day_is = refl; minute_is = refl };
      carries = record { day_is = refl; minute_is = refl };
      carries_to_day_0 = record { day_is = refl; minute_is = refl };
      carries_to_day_370 = record { day_is = refl; minute_is = refl };
      stays_at_0 = record { day_is = refl; minute_is = refl };
    }

-- the place at day d is d itself
abbrev itself : ℤ → ℤ
itself d = d

-- from day 3 to the mark 5, days 3, 4, 5 and 6 are visited: a place exactly at the mark is not past it. A tangent off the table is
-- met on the first and on the last of them, and not on day 7
pub record Walks : Type 0 where
  pub at_the_mark : count_from itself (pos 5) 8 (pos 3) ≡ 4
  pub past_at_once : count_from itself (pos 2) 8 (pos 3) ≡ 1
  pub none_left : count_from itself (pos 20) 8 (pos 3) ≡ 8
  pub off_at_first : off_from (λ (d : ℤ). lt_z d (pos 4)) itself (pos 5) 8 (pos 3) ≡ true
  pub off_at_last : off_from (λ (d : ℤ). lt_z (pos 5) d) itself (pos 5) 8 (pos 3) ≡ true
  pub off_after : off_from (λ (d : ℤ). lt_z (pos 6) d) itself (pos 5) 8 (pos 3) ≡ false

pub walks : Walks
unfolding count_from off_from
walks = record { at_the_mark = refl; past_at_once = refl; none_left = refl; off_at_first = refl; off_at_last = refl; off_after = refl }
