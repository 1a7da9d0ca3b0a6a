-- Whether a partner's book is ours: each value of a head and of a term to both sides of ours, minutes cut off, the values of one year under
-- the N of another, and each refusal after a record that is not ours. The rows are the independent program's (tests/worked_facts.py). The two
-- years that most of them ask for are worked out once. Assumes nothing.
use mathlib.Core.Path.{◌≡◌, refl, ap, ap₂}
use mathlib.Core.List.{List, [], ◌∷◌, ◌++◌}
use Prim.Native.Nat.{ℕ}
use lib.IntN.{ℤ, pos, neg_ℤ}
use lib.ListN.{take}
use Rattle.reasoning.specs.Answer.{value}
use Rattle.reasoning.specs.InOrder.{in_order}
use Rattle.law.specs.Sines.{sines}
use Rattle.law.specs.Tangents.{tangents}
use Rattle.law.specs.Entry.{sine_entry, tangent_entry}
use Rattle.law.specs.Round.{half_up, floor_div, floor_mod}
use Rattle.law.specs.Document.{epicycles, solstice, fraction, root, mean_place, perigee, in_circle, anomaly, mirrored, folded, between, sine, cosine, height, base, long_side, tangent, last_minute, angle_past, angle, equation, run_on_place, mark, start, count_from, count, term_day, gone_on, step_on, cut_minute, rounded_minute, carried_minute, carried_day, printed_day, printed_minute, TermValues, term_values, day_name, mansion}
use Rattle.law.specs.Book.{record_size, out_of_turn, out_of_range, record_answer, terms_from, year_from, years_from, next_at, parts_from, sound, book_of, found, seek_from, seek_of, BookYear, read_answer, worked_year}
use Rattle.law.proofs.WorkedBooks.{the_term, year, with}
use Rattle.law.proofs.WorkedParts.{next}
use Rattle.verify.specs.Verify.{Verdict, ours, not_ours, refused_at, head_differs, term_differs, terms_verdict, year_beside, unless_ours, years_verdict, verdict_of}

-- the year after 1684, as we write it
abbrev after : List ℕ
after = 1 ∷ 7 ∷ 209 ∷ 12 ∷ 7 ∷ 2 ∷ 0 ∷ 0 ∷ 4 ∷ 0 ∷ 223 ∷ 2 ∷ 1 ∷ 0 ∷ 18 ∷ 4 ∷ 184 ∷ 2 ∷ 2 ∷ 0 ∷ 33 ∷ 3 ∷ 11 ∷ 2 ∷ 3 ∷ 0 ∷ 48 ∷ 1 ∷ 168 ∷ 2 ∷ 4 ∷ 0 ∷ 63 ∷ 0 ∷ 188 ∷ 2 ∷ 5 ∷ 0 ∷ 78 ∷ 0 ∷ 108 ∷ 2 ∷ 6 ∷ 0 ∷ 93 ∷ 0 ∷ 212 ∷ 2 ∷ 7 ∷ 0 ∷ 108 ∷ 2 ∷ 5 ∷ 2 ∷ 8 ∷ 0 ∷ 123 ∷ 4 ∷ 2 ∷ 2 ∷ 9 ∷ 0 ∷ 139 ∷ 1 ∷ 33 ∷ 2 ∷ 10 ∷ 0 ∷ 154 ∷ 4 ∷ 136 ∷ 2 ∷ 11 ∷ 0 ∷ 170 ∷ 2 ∷ 209 ∷ 2 ∷ 12 ∷ 0 ∷ 186 ∷ 1 ∷ 110 ∷ 2 ∷ 13 ∷ 0 ∷ 202 ∷ 0 ∷ 38 ∷ 2 ∷ 14 ∷ 0 ∷ 217 ∷ 4 ∷ 96 ∷ 2 ∷ 15 ∷ 0 ∷ 233 ∷ 2 ∷ 165 ∷ 2 ∷ 16 ∷ 0 ∷ 249 ∷ 0 ∷ 102 ∷ 2 ∷ 17 ∷ 1 ∷ 8 ∷ 3 ∷ 29 ∷ 2 ∷ 18 ∷ 1 ∷ 23 ∷ 5 ∷ 17 ∷ 2 ∷ 19 ∷ 1 ∷ 39 ∷ 0 ∷ 154 ∷ 2 ∷ 20 ∷ 1 ∷ 54 ∷ 0 ∷ 250 ∷ 2 ∷ 21 ∷ 1 ∷ 69 ∷ 0 ∷ 163 ∷ 2 ∷ 22 ∷ 1 ∷ 83 ∷ 5 ∷ 82 ∷ 2 ∷ 23 ∷ 1 ∷ 98 ∷ 3 ∷ 235 ∷ []

-- the year -255 with each term's crossing, the minute cut off: its first term is printed a day later
abbrev at_crossings : List ℕ
at_crossings = 1 ∷ 6 ∷ 209 ∷ 50 ∷ 25 ∷ 2 ∷ 0 ∷ 0 ∷ 3 ∷ 5 ∷ 159 ∷ 2 ∷ 1 ∷ 0 ∷ 18 ∷ 3 ∷ 219 ∷ 2 ∷ 2 ∷ 0 ∷ 33 ∷ 2 ∷ 63 ∷ 2 ∷ 3 ∷ 0 ∷ 48 ∷ 0 ∷ 250 ∷ 2 ∷ 4 ∷ 0 ∷ 63 ∷ 0 ∷ 56 ∷ 2 ∷ 5 ∷ 0 ∷ 78 ∷ 0 ∷ 27 ∷ 2 ∷ 6 ∷ 0 ∷ 93 ∷ 0 ∷ 188 ∷ 2 ∷ 7 ∷ 0 ∷ 108 ∷ 2 ∷ 40 ∷ 2 ∷ 8 ∷ 0 ∷ 123 ∷ 4 ∷ 95 ∷ 2 ∷ 9 ∷ 0 ∷ 139 ∷ 1 ∷ 178 ∷ 2 ∷ 10 ∷ 0 ∷ 154 ∷ 5 ∷ 67 ∷ 2 ∷ 11 ∷ 0 ∷ 170 ∷ 3 ∷ 170 ∷ 2 ∷ 12 ∷ 0 ∷ 186 ∷ 2 ∷ 84 ∷ 2 ∷ 13 ∷ 0 ∷ 202 ∷ 1 ∷ 9 ∷ 2 ∷ 14 ∷ 0 ∷ 217 ∷ 5 ∷ 48 ∷ 2 ∷ 15 ∷ 0 ∷ 233 ∷ 3 ∷ 83 ∷ 2 ∷ 16 ∷ 0 ∷ 249 ∷ 0 ∷ 230 ∷ 2 ∷ 17 ∷ 1 ∷ 8 ∷ 3 ∷ 103 ∷ 2 ∷ 18 ∷ 1 ∷ 23 ∷ 5 ∷ 33 ∷ 2 ∷ 19 ∷ 1 ∷ 39 ∷ 0 ∷ 110 ∷ 2 ∷ 20 ∷ 1 ∷ 54 ∷ 0 ∷ 151 ∷ 2 ∷ 21 ∷ 1 ∷ 69 ∷ 0 ∷ 16 ∷ 2 ∷ 22 ∷ 1 ∷ 83 ∷ 4 ∷ 152 ∷ 2 ∷ 23 ∷ 1 ∷ 98 ∷ 3 ∷ 24 ∷ []

abbrev reckoned : ℤ → ℕ → ℕ → List TermValues → BookYear
reckoned N name mansion terms = record { year_n = N; year_name = name; year_mansion = mansion; year_terms = terms }

-- the two years, as we reckon them
pub record WorkedYears : Type 0 where
  pub ours_0 : worked_year epicycles (pos 0) ≡ reckoned (pos 0) 7 6 (the_term (neg_ℤ (pos 1)) 1_313 5 ∷ the_term (pos 14) 858 5 ∷ the_term (pos 29) 429 4 ∷ the_term (pos 44) 75 4 ∷ the_term (pos 58) 1_279 3 ∷ the_term (pos 73) 1_199 3 ∷ the_term (pos 88) 1_304 3 ∷ the_term (pos 104) 169 3 ∷ the_term (pos 119) 678 3 ∷ the_term (pos 134) 1_380 3 ∷ the_term (pos 150) 812 4 ∷ the_term (pos 166) 374 4 ∷ the_term (pos 182) 18 5 ∷ the_term (pos 197) 1_130 5 ∷ the_term (pos 213) 772 6 ∷ the_term (pos 229) 329 7 ∷ the_term (pos 244) 1_193 6 ∷ the_term (pos 260) 448 7 ∷ the_term (pos 275) 949 7 ∷ the_term (pos 290) 1_245 7 ∷ the_term (pos 305) 1_341 6 ∷ the_term (pos 320) 1_254 6 ∷ the_term (pos 335) 1_012 6 ∷ the_term (pos 350) 654 6 ∷ [])
  pub ours_1 : worked_year epicycles (pos 1) ≡ reckoned (pos 1) 12 7 (the_term (pos 0) 223 6 ∷ the_term (pos 14) 1_208 4 ∷ the_term (pos 29) 779 4 ∷ the_term (pos 44) 424 4 ∷ the_term (pos 59) 188 4 ∷ the_term (pos 74) 108 4 ∷ the_term (pos 89) 212 3 ∷ the_term (pos 104) 517 3 ∷ the_term (pos 119) 1_026 3 ∷ the_term (pos 135) 289 4 ∷ the_term (pos 150) 1_160 3 ∷ the_term (pos 166) 721 4 ∷ the_term (pos 182) 366 5 ∷ the_term (pos 198) 38 6 ∷ the_term (pos 213) 1_120 6 ∷ the_term (pos 229) 677 6 ∷ the_term (pos 245) 102 7 ∷ the_term (pos 260) 797 7 ∷ the_term (pos 275) 1_297 7 ∷ the_term (pos 291) 154 7 ∷ the_term (pos 306) 250 7 ∷ the_term (pos 321) 163 7 ∷ the_term (pos 335) 1_362 6 ∷ the_term (pos 350) 1_003 6 ∷ [])

pub worked_years : WorkedYears
unfolding sines tangents sine_entry tangent_entry half_up floor_div floor_mod solstice fraction root mean_place perigee in_circle anomaly mirrored folded between sine cosine height base long_side tangent last_minute angle_past angle equation run_on_place mark start count_from count term_day gone_on step_on rounded_minute carried_minute carried_day printed_day printed_minute term_values in_order day_name mansion worked_year
worked_years = record { ours_0 = refl; ours_1 = refl }

-- what is said of a book of one year or of two, by what ours are
abbrev one : List ℕ → BookYear → Verdict
one s v = unless_ours (year_beside 0 s v) ours

abbrev two : List ℕ → List ℕ → BookYear → BookYear → Verdict
two s t v u = unless_ours (year_beside 0 s v) (unless_ours (year_beside 149 t u) ours)

-- books of 1684, and of it and the year after
pub record WorkedVerify : Type 0 where
  pub whole : verdict_of epicycles year ≡ ours
  pub none : verdict_of epicycles [] ≡ ours
  pub two : verdict_of epicycles (year ++ after) ≡ ours
  -- each value, to both sides of ours
  pub name_less : verdict_of epicycles (with 3 (6 ∷ [])) ≡ not_ours 0
  pub mansion_less : verdict_of epicycles (with 4 (5 ∷ [])) ≡ not_ours 0
  pub first_day_less : verdict_of epicycles (with 7 (0 ∷ 2 ∷ [])) ≡ not_ours 5
  pub first_minute_less : verdict_of epicycles (with 9 (5 ∷ 32 ∷ [])) ≡ not_ours 5
  pub last_day_less : verdict_of epicycles (with 145 (1 ∷ 97 ∷ [])) ≡ not_ours 143
  pub last_minute_less : verdict_of epicycles (with 147 (2 ∷ 141 ∷ [])) ≡ not_ours 143
  pub name_more : verdict_of epicycles (with 3 (8 ∷ [])) ≡ not_ours 0
  pub mansion_more : verdict_of epicycles (with 4 (7 ∷ [])) ≡ not_ours 0
  pub first_day_more : verdict_of epicycles (with 7 (0 ∷ 4 ∷ [])) ≡ not_ours 5
  pub first_minute_more : verdict_of epicycles (with 9 (5 ∷ 34 ∷ [])) ≡ not_ours 5
  pub last_day_more : verdict_of epicycles (with 145 (1 ∷ 99 ∷ [])) ≡ not_ours 143
  pub last_minute_more : verdict_of epicycles (with 147 (2 ∷ 143 ∷ [])) ≡ not_ours 143
  pub day_high_byte : verdict_of epicycles (with 7 (1 ∷ 3 ∷ [])) ≡ not_ours 5
  pub minute_high_byte : verdict_of epicycles (with 9 (4 ∷ 33 ∷ [])) ≡ not_ours 5
  pub day_and_minute : verdict_of epicycles (with 7 (0 ∷ 4 ∷ 5 ∷ 32 ∷ [])) ≡ not_ours 5
  pub between_first_and_last : verdict_of epicycles (with 75 (1 ∷ 119 ∷ [])) ≡ not_ours 71
  -- the first term whose minute rounding moves, cut off
  pub cut_off_lem : verdict_of epicycles (with 27 (0 ∷ 74 ∷ [])) ≡ not_ours 23
  -- the second year, and the first of two that differ
  pub second_head : verdict_of epicycles (year ++ next) ≡ not_ours 149
  pub second_last : verdict_of epicycles (year ++ (take 148 after ++ (236 ∷ []))) ≡ not_ours 292
  pub first_of_two : verdict_of epicycles (with 147 (2 ∷ 143 ∷ []) ++ next) ≡ not_ours 143
  pub head_before_term : verdict_of epicycles (with 3 (8 ∷ 6 ∷ 2 ∷ 0 ∷ 0 ∷ 0 ∷ [])) ≡ not_ours 0
  -- the book's refusals, each after a record that is not ours
  pub refused_7 : verdict_of epicycles (with 3 (8 ∷ []) ++ take 8 next) ≡ refused_at 7 154
  pub refused_8 : verdict_of epicycles (with 3 (8 ∷ []) ++ (3 ∷ [])) ≡ refused_at 8 149
  pub refused_9 : verdict_of epicycles (with 3 (8 ∷ []) ++ with 2 (209 ∷ 60 ∷ [])) ≡ refused_at 9 149
  pub refused_10 : verdict_of epicycles (with 3 (8 ∷ []) ++ year) ≡ refused_at 10 149
  pub cut_between_records : verdict_of epicycles (take 143 (with 3 (8 ∷ []))) ≡ refused_at 10 143
  -- what is not ours is accepted by the check, sought and read
  pub checked : book_of (with 3 (8 ∷ [])) ≡ sound 149
  pub found : seek_of (with 3 (8 ∷ [])) (pos 0) ≡ found 0 149
  pub read : read_answer (with 3 (8 ∷ [])) 24 ≡ value (sound 149)

pub worked_verify : WorkedVerify
unfolding record_size out_of_turn out_of_range record_answer terms_from year_from years_from next_at parts_from head_differs term_differs terms_verdict year_beside years_verdict verdict_of seek_from seek_of read_answer
worked_verify =
    let zero = worked_years.ours_0 in
    let one_on = worked_years.ours_1 in
    record {
      whole = ap (one year) zero;
      none = refl;
      two = ap₂ (two year after) zero one_on;
      name_less = ap (one (with 3 (6 ∷ []))) zero;
      mansion_less = ap (one (with 4 (5 ∷ []))) zero;
      first_day_less = ap (one (with 7 (0 ∷ 2 ∷ []))) zero;
      first_minute_less = ap (one (with 9 (5 ∷ 32 ∷ []))) zero;
      last_day_less = ap (one (with 145 (1 ∷ 97 ∷ []))) zero;
      last_minute_less = ap (one (with 147 (2 ∷ 141 ∷ []))) zero;
      name_more = ap (one (with 3 (8 ∷ []))) zero;
      mansion_more = ap (one (with 4 (7 ∷ []))) zero;
      first_day_more = ap (one (with 7 (0 ∷ 4 ∷ []))) zero;
      first_minute_more = ap (one (with 9 (5 ∷ 34 ∷ []))) zero;
      last_day_more = ap (one (with 145 (1 ∷ 99 ∷ []))) zero;
      last_minute_more = ap (one (with 147 (2 ∷ 143 ∷ []))) zero;
      day_high_byte = ap (one (with 7 (1 ∷ 3 ∷ []))) zero;
      minute_high_byte = ap (one (with 9 (4 ∷ 33 ∷ []))) zero;
      day_and_minute = ap (one (with 7 (0 ∷ 4 ∷ 5 ∷ 32 ∷ []))) zero;
      between_first_and_last = ap (one (with 75 (1 ∷ 119 ∷ []))) zero;
      cut_off_lem = ap (one (with 27 (0 ∷ 74 ∷ []))) zero;
      second_head = ap₂ (two year next) zero one_on;
      second_last = ap₂ (two year (take 148 after ++ (236 ∷ []))) zero one_on;
      first_of_two = ap₂ (two (with 147 (2 ∷ 143 ∷ [])) next) zero one_on;
      head_before_term = ap (one (with 3 (8 ∷ 6 ∷ 2 ∷ 0 ∷ 0 ∷ 0 ∷ []))) zero;
      refused_7 = refl;
      refused_8 = refl;
      refused_9 = refl;
      refused_10 = refl;
      cut_between_records = refl;
      checked = refl;
      found = refl;
      read = refl;
    }

-- a year whose first term rounding moves to the next day, with what was cut off; and the values of 1684 under another N
pub record OtherYears : Type 0 where
  pub not_carried : verdict_of epicycles at_crossings ≡ not_ours 5
  pub next_number : verdict_of epicycles next ≡ not_ours 0
  pub least_number : verdict_of epicycles (with 1 (0 ∷ 0 ∷ [])) ≡ not_ours 0
  pub most_number : verdict_of epicycles (with 1 (15 ∷ 160 ∷ [])) ≡ not_ours 0

pub other_years : OtherYears
unfolding sines tangents sine_entry tangent_entry half_up floor_div floor_mod solstice fraction root mean_place perigee in_circle anomaly mirrored folded between sine cosine height base long_side tangent last_minute angle_past angle equation run_on_place mark start count_from count term_day gone_on step_on cut_minute rounded_minute carried_minute carried_day printed_day printed_minute term_values in_order day_name mansion worked_year record_size out_of_turn out_of_range record_answer terms_from year_from years_from next_at parts_from head_differs term_differs terms_verdict year_beside years_verdict verdict_of
other_years = record { not_carried = refl; next_number = refl; least_number = refl; most_number = refl }
