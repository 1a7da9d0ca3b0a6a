-- Each limit of document 01 from both sides: the last that is answered, with its answer, and the first that is refused. The rows are
-- the independent program's (tests/worked_facts.py). Assumes nothing.
use mathlib.Core.Path.{◌≡◌, refl}
use mathlib.Core.List.{[], ◌∷◌, ◌++◌}
use Prim.Native.Nat.{ℕ}
use lib.IntN.{ℤ, pos, neg_ℤ}
use lib.ListN.{replicate}
use Rattle.law.specs.Sines.{sines}
use Rattle.law.specs.Tangents.{tangents}
use Rattle.law.specs.Entry.{sine_entry, tangent_entry}
use Rattle.law.specs.Round.{half_up, half_up_on_size, floor_div, floor_mod}
use Rattle.reasoning.specs.Answer.{value, refused, refusal_in}
use Rattle.reasoning.specs.InOrder.{in_order}
use Rattle.law.specs.Document.{epicycles, solstice, fraction, root, mean_place, perigee, in_circle, anomaly, mirrored, folded, between, sine, cosine, height, base, long_side, tangent, last_minute, angle_past, angle, equation, run_on_place, mark, start, count_from, count, term_day, gone_on, step_on, cut_minute, rounded_minute, carried_minute, carried_day, printed_day, printed_minute, day_name, mansion, YearValues, year_answer, term_values, off_from, off_below, mean_answer, true_answer, run_on_answer, term_answer, crossing_values, crossing_answer, terms_answer, fill_answer, clock_of_arc, local_minutes, local_day, local_minute, LocalValues, local_answer}
use Rattle.law.specs.Book.{record_size, out_of_turn, out_of_range, record_answer, terms_from, year_from, years_from, book_of, sound, faulty, BookYear, read_answer, any_bad, bad_values, write_answer, worked_answer}
use Rattle.law.proofs.WorkedBooks.{the_term, year, with}
use Rattle.law.proofs.WorkedTerms.{the_crossing}

abbrev the_year : ℕ → ℕ → ℕ → ℕ → YearValues
the_year name fraction mansion root =
    record { solstice_day = name; solstice_fraction = fraction; duty_mansion = mansion; year_root = root }

abbrev pub there : ℤ → ℕ → LocalValues
there day minute = record { day_there = day; minute_there = minute }

-- a year whose list has so many terms, all of one day and minute
abbrev pub values : ℤ → ℕ → ℕ → ℤ → ℕ → ℕ → BookYear
values N name mansion day minute listed =
    record { year_n = N; year_name = name; year_mansion = mansion; year_terms = replicate listed (the_term day minute 9) }

-- 24 terms of which only the last is of this day and minute
abbrev last_alone : ℤ → ℕ → BookYear
last_alone day minute =
    record { year_n = pos 0; year_name = 0; year_mansion = 0; year_terms = replicate 23 (the_term (pos 0) 0 9) ++ (the_term day minute 9 ∷ []) }

pub record WorkedLimits : Type 0 where
  -- 1, a year
  pub year_below : year_answer (neg_ℤ (pos 2_001)) ≡ refused 1
  pub year_least : year_answer (neg_ℤ (pos 2_000)) ≡ value (the_year 23 281_374_926 14 152_995_156_817)
  pub year_most : year_answer (pos 2_000) ≡ value (the_year 52 31_374_926 27 206_220_114_571)
  pub year_above : year_answer (pos 2_001) ≡ refused 1
  -- 2, a day
  pub mean_below : mean_answer (pos 0) (neg_ℤ (pos 5)) ≡ refused 2
  pub mean_least : mean_answer (pos 0) (neg_ℤ (pos 4)) ≡ value 76_981_558_396_131
  pub mean_most : mean_answer (pos 0) (pos 370) ≡ value 1_086_095_195_367
  pub mean_above : mean_answer (pos 0) (pos 371) ≡ refused 2
  pub true_below : true_answer epicycles (pos 0) (neg_ℤ (pos 5)) ≡ refused 2
  pub true_least : true_answer epicycles (pos 0) (neg_ℤ (pos 4)) ≡ value 76_897_157_021_089
  pub true_most : true_answer epicycles (pos 0) (pos 370) ≡ value 1_069_080_614_900
  pub true_above : true_answer epicycles (pos 0) (pos 371) ≡ refused 2
  pub run_on_below : run_on_answer epicycles (pos 0) (neg_ℤ (pos 5)) ≡ refused 2
  pub run_on_least : run_on_answer epicycles (pos 0) (neg_ℤ (pos 4)) ≡ value (neg_ℤ (pos 862_842_978_911))
  pub run_on_most : run_on_answer epicycles (pos 0) (pos 370) ≡ value (pos 78_829_080_614_900)
  pub run_on_above : run_on_answer epicycles (pos 0) (pos 371) ≡ refused 2
  -- 3, a term
  pub term_most : term_answer epicycles (pos 0) 23 ≡ value (the_term (pos 350) 654 6)
  pub term_above : term_answer epicycles (pos 0) 24 ≡ refused 3
  pub crossing_most : crossing_answer epicycles (pos 0) 23 ≡ value (the_crossing (pos 350) 653)
  pub crossing_above : crossing_answer epicycles (pos 0) 24 ≡ refused 3
  -- 2 and 4 of a local time
  pub local_day_below : local_answer (neg_ℤ (pos 5)) 0 (pos 0) ≡ refused 2
  pub local_day_least : local_answer (neg_ℤ (pos 4)) 0 (pos 0) ≡ value (there (neg_ℤ (pos 4)) 0)
  pub local_day_most : local_answer (pos 370) 0 (pos 0) ≡ value (there (pos 370) 0)
  pub local_day_above : local_answer (pos 371) 0 (pos 0) ≡ refused 2
  pub local_minute_most : local_answer (pos 0) 1_439 (pos 0) ≡ value (there (pos 0) 1_439)
  pub local_minute_above : local_answer (pos 0) 1_440 (pos 0) ≡ refused 2
  pub local_west_most : local_answer (pos 0) 0 (neg_ℤ (pos 648_000)) ≡ value (there (neg_ℤ (pos 1)) 720)
  pub local_west_beyond : local_answer (pos 0) 0 (neg_ℤ (pos 648_001)) ≡ refused 4
  pub local_east_most : local_answer (pos 0) 0 (pos 648_000) ≡ value (there (pos 0) 720)
  pub local_east_beyond : local_answer (pos 0) 0 (pos 648_001) ≡ refused 4
  -- 6, a list or a buffer
  pub list_23 : refusal_in (fill_answer epicycles (pos 0) 23) ≡ 6
  pub list_24 : refusal_in (fill_answer epicycles (pos 0) 24) ≡ 0
  pub buffer_148 : refusal_in (worked_answer epicycles (pos 0) (replicate 148 0)) ≡ 6
  pub buffer_149 : refusal_in (worked_answer epicycles (pos 0) (replicate 149 0)) ≡ 0
  -- 9 in a book, and a k past the last is out of turn
  pub number_0 : book_of (with 1 (0 ∷ 0 ∷ [])) ≡ sound 149
  pub number_4000 : book_of (with 1 (15 ∷ 160 ∷ [])) ≡ sound 149
  pub number_4001 : book_of (with 1 (15 ∷ 161 ∷ [])) ≡ faulty 9 0
  pub name_59 : book_of (with 3 (59 ∷ [])) ≡ sound 149
  pub name_60 : book_of (with 3 (60 ∷ [])) ≡ faulty 9 0
  pub mansion_27 : book_of (with 4 (27 ∷ [])) ≡ sound 149
  pub mansion_28 : book_of (with 4 (28 ∷ [])) ≡ faulty 9 0
  pub day_374 : book_of (with 7 (1 ∷ 118 ∷ [])) ≡ sound 149
  pub day_375 : book_of (with 7 (1 ∷ 119 ∷ [])) ≡ faulty 9 5
  pub minute_1439 : book_of (with 9 (5 ∷ 159 ∷ [])) ≡ sound 149
  pub minute_1440 : book_of (with 9 (5 ∷ 160 ∷ [])) ≡ faulty 9 5
  pub last_k_24 : book_of (with 144 (24 ∷ [])) ≡ faulty 10 143
  -- reading
  pub read_list_23 : read_answer year 23 ≡ refused 6
  pub read_list_24 : read_answer year 24 ≡ value (sound 149)
  pub read_number_0 : read_answer (with 1 (0 ∷ 0 ∷ [])) 24 ≡ value (sound 149)
  pub read_no_bytes : read_answer [] 24 ≡ value (faulty 10 0)
  -- writing
  pub write_least : refusal_in (write_answer (values (neg_ℤ (pos 2_000)) 0 0 (neg_ℤ (pos 4)) 0 24) (replicate 149 0)) ≡ 0
  pub write_most : refusal_in (write_answer (values (pos 2_000) 59 27 (pos 370) 1_439 24) (replicate 149 0)) ≡ 0
  pub write_list_23 : refusal_in (write_answer (values (pos 2_000) 59 27 (pos 370) 1_439 23) (replicate 149 0)) ≡ 6
  pub write_buffer_148 : refusal_in (write_answer (values (pos 2_000) 59 27 (pos 370) 1_439 24) (replicate 148 0)) ≡ 6
  pub write_name_60 : refusal_in (write_answer (values (pos 2_000) 60 27 (pos 370) 1_439 24) (replicate 149 0)) ≡ 9
  pub write_mansion_28 : refusal_in (write_answer (values (pos 2_000) 59 28 (pos 370) 1_439 24) (replicate 149 0)) ≡ 9
  pub write_day_below : refusal_in (write_answer (values (pos 2_000) 59 27 (neg_ℤ (pos 5)) 1_439 24) (replicate 149 0)) ≡ 9
  pub write_day_above : refusal_in (write_answer (values (pos 2_000) 59 27 (pos 371) 1_439 24) (replicate 149 0)) ≡ 9
  pub write_minute_1440 : refusal_in (write_answer (values (pos 2_000) 59 27 (pos 370) 1_440 24) (replicate 149 0)) ≡ 9
  pub write_last_most : refusal_in (write_answer (last_alone (pos 370) 1_439) (replicate 149 0)) ≡ 0
  pub write_last_day_above : refusal_in (write_answer (last_alone (pos 371) 1_439) (replicate 149 0)) ≡ 9
  pub write_last_minute_1440 : refusal_in (write_answer (last_alone (pos 370) 1_440) (replicate 149 0)) ≡ 9

pub worked_limits : WorkedLimits
unfolding sines tangents sine_entry tangent_entry half_up floor_div floor_mod solstice fraction root mean_place perigee in_circle anomaly mirrored folded between sine cosine height base long_side tangent last_minute angle_past angle equation run_on_place mark start count_from count term_day gone_on step_on cut_minute rounded_minute carried_minute carried_day printed_day printed_minute day_name mansion year_answer term_values off_from in_order off_below mean_answer true_answer run_on_answer term_answer crossing_values crossing_answer terms_answer fill_answer half_up_on_size clock_of_arc local_minutes local_day local_minute local_answer record_size out_of_turn out_of_range record_answer terms_from year_from years_from read_answer any_bad bad_values write_answer worked_answer
worked_limits =
    record {
      year_below = refl;
      year_least = refl;
      year_most = refl;
      year_above = refl;
      mean_below = refl;
      mean_least = refl;
      mean_most = refl;
      mean_above = refl;
      true_below = refl;
      true_least = refl;
      true_most = refl;
      true_above = refl;
      run_on_below = refl;
      run_on_least = refl;
      run_on_most = refl;
      run_on_above = refl;
      term_most = refl;
      term_above = refl;
      crossing_most = refl;
      crossing_above = refl;
      local_day_below = refl;
      local_day_least = refl;
      local_day_most = refl;
      local_day_above = refl;
      local_minute_most = refl;
      local_minute_above = refl;
      local_west_most = refl;
      local_west_beyond = refl;
      local_east_most = refl;
      local_east_beyond = refl;
      list_23 = refl;
      list_24 = refl;
      buffer_148 = refl;
      buffer_149 = refl;
      number_0 = refl;
      number_4000 = refl;
      number_4001 = refl;
      name_59 = refl;
      name_60 = refl;
      mansion_27 = refl;
      mansion_28 = refl;
      day_374 = refl;
      day_375 = refl;
      minute_1439 = refl;
      minute_1440 = refl;
      last_k_24 = refl;
      read_list_23 = refl;
      read_list_24 = refl;
      read_number_0 = refl;
      read_no_bytes = refl;
      write_least = refl;
      write_most = refl;
      write_list_23 = refl;
      write_buffer_148 = refl;
      write_name_60 = refl;
      write_mansion_28 = refl;
      write_day_below = refl;
      write_day_above = refl;
      write_minute_1440 = refl;
      write_last_most = refl;
      write_last_day_above = refl;
      write_last_minute_1440 = refl;
    }
