-- Where two refusals meet in one call, the one given is the first in document 01's order: a row for each pair, named for the call
-- and the two, and 5 by itself where a wide difference of the epicycles makes it come. The rows are the independent program's
-- (tests/worked_facts.py). Assumes nothing.
use mathlib.Core.Path.{◌≡◌, refl}
use mathlib.Core.Bool.{true}
use mathlib.Core.List.{[], ◌∷◌, ◌++◌}
use lib.IntN.{pos, neg_ℤ}
use lib.ListN.{take, replicate}
use Rattle.law.specs.Sines.{sines}
use Rattle.law.specs.Tangents.{tangents}
use Rattle.law.specs.Entry.{sine_entry, tangent_entry}
use Rattle.law.specs.Round.{half_up, floor_div, floor_mod}
use Rattle.reasoning.specs.Answer.{refused, refusal_in}
use Rattle.reasoning.specs.InOrder.{in_order}
use Rattle.law.specs.Document.{epicycles, solstice, fraction, root, mean_place, perigee, in_circle, anomaly, mirrored, folded, between, sine, cosine, height, base, long_side, tangent, last_minute, angle_past, angle, equation, run_on_place, mark, start, count_from, count, term_day, gone_on, step_on, rounded_minute, carried_minute, carried_day, printed_day, printed_minute, term_values, off_from, off_below, mean_answer, true_answer, run_on_answer, term_answer, crossing_answer, terms_answer, fill_answer, local_answer}
use Rattle.law.specs.Book.{record_size, out_of_turn, out_of_range, record_answer, terms_from, year_from, years_from, book_of, faulty, unsound, no_year, seek_from, seek_of, read_answer, any_bad, bad_values, write_answer, worked_answer}
use Rattle.law.proofs.WorkedBooks.{year, with}
use Rattle.law.proofs.WorkedParts.{twice}
use Rattle.law.proofs.WorkedLimits.{values}

pub record WorkedOrders : Type 0 where
  -- 1, 2, 3, 4, 6
  pub mean_1_2 : mean_answer (pos 2_001) (pos 371) ≡ refused 1
  pub true_1_2 : true_answer epicycles (neg_ℤ (pos 2_001)) (neg_ℤ (pos 5)) ≡ refused 1
  pub run_on_1_2 : run_on_answer epicycles (pos 2_001) (neg_ℤ (pos 5)) ≡ refused 1
  pub term_1_3 : term_answer epicycles (neg_ℤ (pos 2_001)) 24 ≡ refused 1
  pub fill_1_6 : refusal_in (fill_answer epicycles (pos 2_001) 23) ≡ 1
  pub local_2_4_day : local_answer (pos 371) 0 (pos 648_001) ≡ refused 2
  pub local_2_4_minute : local_answer (pos 0) 1_440 (neg_ℤ (pos 648_001)) ≡ refused 2
  pub worked_1_6 : refusal_in (worked_answer epicycles (neg_ℤ (pos 2_001)) (replicate 148 0)) ≡ 1
  -- and 5 the last
  pub true_1_5 : true_answer 1_000_000 (pos 2_001) (neg_ℤ (pos 4)) ≡ refused 1
  pub true_2_5 : true_answer 1_000_000 (pos 0) (neg_ℤ (pos 5)) ≡ refused 2
  pub true_5 : true_answer 1_000_000 (pos 0) (neg_ℤ (pos 4)) ≡ refused 5
  pub run_on_1_5 : run_on_answer 1_000_000 (neg_ℤ (pos 2_001)) (neg_ℤ (pos 4)) ≡ refused 1
  pub run_on_2_5 : run_on_answer 1_000_000 (pos 0) (neg_ℤ (pos 5)) ≡ refused 2
  pub run_on_5 : run_on_answer 1_000_000 (pos 0) (neg_ℤ (pos 4)) ≡ refused 5
  pub term_1_5 : term_answer 1_000_000 (pos 2_001) 6 ≡ refused 1
  pub term_3_5 : term_answer 1_000_000 (pos 0) 24 ≡ refused 3
  pub term_5 : term_answer 1_000_000 (pos 0) 6 ≡ refused 5
  pub term_5_at_the_last_midnight : term_answer 189_400 (neg_ℤ (pos 1_900)) 16 ≡ refused 5
  pub crossing_1_3 : crossing_answer epicycles (pos 2_001) 24 ≡ refused 1
  pub crossing_1_5 : crossing_answer 1_000_000 (neg_ℤ (pos 2_001)) 6 ≡ refused 1
  pub crossing_3_5 : crossing_answer 1_000_000 (pos 0) 24 ≡ refused 3
  pub crossing_5 : crossing_answer 1_000_000 (pos 0) 6 ≡ refused 5
  pub crossing_5_at_the_last_midnight : crossing_answer 189_400 (neg_ℤ (pos 1_900)) 16 ≡ refused 5
  pub fill_1_5 : refusal_in (fill_answer 1_000_000 (pos 2_001) 24) ≡ 1
  pub fill_6_5 : refusal_in (fill_answer 1_000_000 (pos 0) 23) ≡ 6
  pub fill_5 : refusal_in (fill_answer 1_000_000 (pos 0) 24) ≡ 5
  pub fill_5_at_the_first : off_below 1_000_000 (pos 0) 1 ≡ true
  pub worked_1_5 : refusal_in (worked_answer 1_000_000 (pos 2_001) (replicate 149 0)) ≡ 1
  pub worked_6_5 : refusal_in (worked_answer 1_000_000 (pos 0) (replicate 148 0)) ≡ 6
  pub worked_5 : refusal_in (worked_answer 1_000_000 (pos 0) (replicate 149 0)) ≡ 5
  -- in a record: 8, 7, 10, 9
  pub record_8_7 : book_of (3 ∷ []) ≡ faulty 8 0
  pub record_8_10 : book_of (with 5 (3 ∷ [])) ≡ faulty 8 5
  pub record_7_10_term_for_head : book_of (2 ∷ []) ≡ faulty 7 0
  pub record_7_10_head_for_term : book_of (take 5 year ++ (1 ∷ [])) ≡ faulty 7 5
  pub record_7_10_number : book_of (year ++ (1 ∷ 0 ∷ 0 ∷ [])) ≡ faulty 7 149
  pub record_7_10_k : book_of (take 5 year ++ (2 ∷ 9 ∷ [])) ≡ faulty 7 5
  pub record_7_9_head : book_of (1 ∷ 255 ∷ 255 ∷ 255 ∷ []) ≡ faulty 7 0
  pub record_7_9_term : book_of (take 5 year ++ (2 ∷ 0 ∷ 255 ∷ 255 ∷ [])) ≡ faulty 7 5
  pub record_10_9_number : book_of (year ++ with 3 (60 ∷ [])) ≡ faulty 10 149
  pub record_10_9_k : book_of (with 6 (1 ∷ 255 ∷ 255 ∷ [])) ≡ faulty 10 5
  pub record_10_9_head_for_term : book_of (take 5 year ++ (1 ∷ 255 ∷ 255 ∷ 60 ∷ 28 ∷ 0 ∷ [])) ≡ faulty 10 5
  pub record_10_9_term_for_head : book_of (2 ∷ 0 ∷ 255 ∷ 255 ∷ 255 ∷ 255 ∷ []) ≡ faulty 10 0
  pub record_10_head_for_term : book_of (take 5 year ++ (1 ∷ 0 ∷ 0 ∷ 0 ∷ 0 ∷ 0 ∷ [])) ≡ faulty 10 5
  pub record_10_term_for_head : book_of (2 ∷ 1 ∷ 0 ∷ 0 ∷ 0 ∷ 0 ∷ []) ≡ faulty 10 0
  -- seeking: 1, the book, 12
  pub seek_1_book : seek_of (3 ∷ []) (pos 2_001) ≡ no_year 1
  pub seek_1_12 : seek_of [] (neg_ℤ (pos 2_001)) ≡ no_year 1
  pub seek_book_12 : seek_of twice (pos 1) ≡ unsound 10 149
  pub seek_book_found : seek_of twice (pos 0) ≡ unsound 10 149
  -- reading: 6, then as the book does
  pub read_6_8 : read_answer (3 ∷ []) 23 ≡ refused 6
  pub read_6_7 : read_answer (1 ∷ []) 23 ≡ refused 6
  pub read_6_10 : read_answer [] 23 ≡ refused 6
  pub read_6_9 : read_answer (with 3 (60 ∷ [])) 23 ≡ refused 6
  -- writing: 1, 6 for list or buffer, 9
  pub write_1_6_list : refusal_in (write_answer (values (pos 2_001) 0 0 (pos 0) 0 23) (replicate 149 0)) ≡ 1
  pub write_1_6_buffer : refusal_in (write_answer (values (neg_ℤ (pos 2_001)) 0 0 (pos 0) 0 24) (replicate 148 0)) ≡ 1
  pub write_1_9 : refusal_in (write_answer (values (pos 2_001) 60 0 (pos 0) 0 24) (replicate 149 0)) ≡ 1
  pub write_6_9_list : refusal_in (write_answer (values (pos 0) 60 0 (pos 0) 0 23) (replicate 149 0)) ≡ 6
  pub write_6_9_buffer : refusal_in (write_answer (values (pos 0) 0 28 (pos 0) 0 24) (replicate 148 0)) ≡ 6

pub worked_orders : WorkedOrders
unfolding sines tangents sine_entry tangent_entry half_up floor_div floor_mod solstice fraction root mean_place perigee in_circle anomaly mirrored folded between sine cosine height base long_side tangent last_minute angle_past angle equation run_on_place mark start count_from count term_day gone_on step_on rounded_minute carried_minute carried_day printed_day printed_minute term_values off_from in_order off_below mean_answer true_answer run_on_answer term_answer crossing_answer terms_answer fill_answer local_answer record_size out_of_turn out_of_range record_answer terms_from year_from years_from seek_from seek_of read_answer any_bad bad_values write_answer worked_answer
worked_orders =
    record {
      mean_1_2 = refl;
      true_1_2 = refl;
      run_on_1_2 = refl;
      term_1_3 = refl;
      fill_1_6 = refl;
      local_2_4_day = refl;
      local_2_4_minute = refl;
      worked_1_6 = refl;
      true_1_5 = refl;
      true_2_5 = refl;
      true_5 = refl;
      run_on_1_5 = refl;
      run_on_2_5 = refl;
      run_on_5 = refl;
      term_1_5 = refl;
      term_3_5 = refl;
      term_5 = refl;
      term_5_at_the_last_midnight = refl;
      crossing_1_3 = refl;
      crossing_1_5 = refl;
      crossing_3_5 = refl;
      crossing_5 = refl;
      crossing_5_at_the_last_midnight = refl;
      fill_1_5 = refl;
      fill_6_5 = refl;
      fill_5 = refl;
      fill_5_at_the_first = refl;
      worked_1_5 = refl;
      worked_6_5 = refl;
      worked_5 = refl;
      record_8_7 = refl;
      record_8_10 = refl;
      record_7_10_term_for_head = refl;
      record_7_10_head_for_term = refl;
      record_7_10_number = refl;
      record_7_10_k = refl;
      record_7_9_head = refl;
      record_7_9_term = refl;
      record_10_9_number = refl;
      record_10_9_k = refl;
      record_10_9_head_for_term = refl;
      record_10_9_term_for_head = refl;
      record_10_head_for_term = refl;
      record_10_term_for_head = refl;
      seek_1_book = refl;
      seek_1_12 = refl;
      seek_book_12 = refl;
      seek_book_found = refl;
      read_6_8 = refl;
      read_6_7 = refl;
      read_6_10 = refl;
      read_6_9 = refl;
      write_1_6_list = refl;
      write_1_6_buffer = refl;
      write_1_9 = refl;
      write_6_9_list = refl;
      write_6_9_buffer = refl;
    }
