-- The year 1684 as values and as a book; each is the other; the first term of a year where it is carried; and what is said of the book
-- when it is damaged: the examples of docs/BOOK.md, one of each refusal. The rows are the independent program's
-- (tests/worked_facts.py). Assumes nothing.
use mathlib.Core.Path.{◌≡◌, refl}
use mathlib.Core.List.{List, [], ◌∷◌, ◌++◌, map}
use Prim.Native.Nat.{ℕ, ◌+◌}
use lib.IntN.{ℤ, pos, neg_ℤ}
use lib.ListN.{length, take, drop, replicate}
use Rattle.law.specs.Sines.{sines}
use Rattle.law.specs.Tangents.{tangents}
use Rattle.law.specs.Entry.{sine_entry, tangent_entry}
use Rattle.law.specs.Round.{half_up, floor_div, floor_mod}
use Rattle.reasoning.specs.Answer.{value, part}
use Rattle.reasoning.specs.InOrder.{in_order}
use Rattle.law.specs.Document.{epicycles, solstice, fraction, root, mean_place, perigee, in_circle, anomaly, mirrored, folded, between, sine, cosine, height, base, long_side, tangent, last_minute, angle_past, angle, equation, run_on_place, mark, start, count_from, count, term_day, gone_on, step_on, rounded_minute, carried_minute, carried_day, printed_day, printed_minute, term_values, off_from, off_below, terms_answer, fill_answer, day_name, mansion, TermValues}
use Rattle.law.specs.Book.{record_size, out_of_turn, out_of_range, record_answer, terms_from, year_from, years_from, book_of, sound, faulty, BookYear, terms_of, bytes_of, terms_in, values_in, read_answer, HeadValues, head_read, terms_read, any_bad, bad_values, write_answer, worked_year, worked_answer}

abbrev pub the_term : ℤ → ℕ → ℕ → TermValues
the_term day minute count = record { day_of_term = day; minute_of_term = minute; count_of_term = count }

abbrev the_head : ℤ → ℕ → ℕ → HeadValues
the_head N name mansion = record { head_n = N; head_name = name; head_mansion = mansion }

abbrev uncounted : TermValues → TermValues
uncounted t = the_term t.day_of_term t.minute_of_term 0

abbrev book_year : HeadValues → List TermValues → BookYear
book_year h ts = record { year_n = h.head_n; year_name = h.head_name; year_mansion = h.head_mansion; year_terms = ts }

abbrev terms : List TermValues
terms = the_term (neg_ℤ (pos 1)) 1_313 5 ∷ the_term (pos 14) 858 5 ∷ the_term (pos 29) 429 4 ∷ the_term (pos 44) 75 4 ∷ the_term (pos 58) 1_279 3 ∷ the_term (pos 73) 1_199 3 ∷ the_term (pos 88) 1_304 3 ∷ the_term (pos 104) 169 3 ∷ the_term (pos 119) 678 3 ∷ the_term (pos 134) 1_380 3 ∷ the_term (pos 150) 812 4 ∷ the_term (pos 166) 374 4 ∷ the_term (pos 182) 18 5 ∷ the_term (pos 197) 1_130 5 ∷ the_term (pos 213) 772 6 ∷ the_term (pos 229) 329 7 ∷ the_term (pos 244) 1_193 6 ∷ the_term (pos 260) 448 7 ∷ the_term (pos 275) 949 7 ∷ the_term (pos 290) 1_245 7 ∷ the_term (pos 305) 1_341 6 ∷ the_term (pos 320) 1_254 6 ∷ the_term (pos 335) 1_012 6 ∷ the_term (pos 350) 654 6 ∷ []

abbrev pub year : List ℕ
year = 1 ∷ 7 ∷ 208 ∷ 7 ∷ 6 ∷ 2 ∷ 0 ∷ 0 ∷ 3 ∷ 5 ∷ 33 ∷ 2 ∷ 1 ∷ 0 ∷ 18 ∷ 3 ∷ 90 ∷ 2 ∷ 2 ∷ 0 ∷ 33 ∷ 1 ∷ 173 ∷ 2 ∷ 3 ∷ 0 ∷ 48 ∷ 0 ∷ 75 ∷ 2 ∷ 4 ∷ 0 ∷ 62 ∷ 4 ∷ 255 ∷ 2 ∷ 5 ∷ 0 ∷ 77 ∷ 4 ∷ 175 ∷ 2 ∷ 6 ∷ 0 ∷ 92 ∷ 5 ∷ 24 ∷ 2 ∷ 7 ∷ 0 ∷ 108 ∷ 0 ∷ 169 ∷ 2 ∷ 8 ∷ 0 ∷ 123 ∷ 2 ∷ 166 ∷ 2 ∷ 9 ∷ 0 ∷ 138 ∷ 5 ∷ 100 ∷ 2 ∷ 10 ∷ 0 ∷ 154 ∷ 3 ∷ 44 ∷ 2 ∷ 11 ∷ 0 ∷ 170 ∷ 1 ∷ 118 ∷ 2 ∷ 12 ∷ 0 ∷ 186 ∷ 0 ∷ 18 ∷ 2 ∷ 13 ∷ 0 ∷ 201 ∷ 4 ∷ 106 ∷ 2 ∷ 14 ∷ 0 ∷ 217 ∷ 3 ∷ 4 ∷ 2 ∷ 15 ∷ 0 ∷ 233 ∷ 1 ∷ 73 ∷ 2 ∷ 16 ∷ 0 ∷ 248 ∷ 4 ∷ 169 ∷ 2 ∷ 17 ∷ 1 ∷ 8 ∷ 1 ∷ 192 ∷ 2 ∷ 18 ∷ 1 ∷ 23 ∷ 3 ∷ 181 ∷ 2 ∷ 19 ∷ 1 ∷ 38 ∷ 4 ∷ 221 ∷ 2 ∷ 20 ∷ 1 ∷ 53 ∷ 5 ∷ 61 ∷ 2 ∷ 21 ∷ 1 ∷ 68 ∷ 4 ∷ 230 ∷ 2 ∷ 22 ∷ 1 ∷ 83 ∷ 3 ∷ 244 ∷ 2 ∷ 23 ∷ 1 ∷ 98 ∷ 2 ∷ 142 ∷ []

-- the year with other bytes from the seat i on
abbrev pub with : ℕ → List ℕ → List ℕ
with i xs = take i year ++ (xs ++ drop (i + length xs) year)

pub record WorkedBooks : Type 0 where
  pub worked_terms : fill_answer epicycles (pos 0) 24 ≡ value terms
  pub worked_year_lem : worked_answer epicycles (pos 0) (replicate 149 0 ++ (7 ∷ 8 ∷ [])) ≡ value (year ++ (7 ∷ 8 ∷ []))
  pub carried_terms : part (take 1) (fill_answer epicycles (neg_ℤ (pos 255)) 24) ≡ value (the_term (pos 0) 0 5 ∷ [])
  pub carried_year : part (take 11) (worked_answer epicycles (neg_ℤ (pos 255)) (replicate 149 0)) ≡ value (1 ∷ 6 ∷ 209 ∷ 50 ∷ 25 ∷ 2 ∷ 0 ∷ 0 ∷ 4 ∷ 0 ∷ 0 ∷ [])
  pub written : write_answer (book_year (the_head (pos 0) 7 6) terms) (replicate 149 0 ++ (7 ∷ 8 ∷ [])) ≡ value (year ++ (7 ∷ 8 ∷ []))
  pub head_read_lem : head_read (read_answer year 24) year ≡ the_head (pos 0) 7 6
  pub terms_read_lem : terms_read (read_answer year 24) year ≡ value (map uncounted terms)
  pub whole : book_of year ≡ sound 149
  pub none : book_of [] ≡ sound 0
  pub no_kind : book_of (with 0 (3 ∷ [])) ≡ faulty 8 0
  pub cut_inside_a_record : book_of (take 8 year) ≡ faulty 7 5
  pub head_twice : book_of (take 5 year ++ year) ≡ faulty 10 5
  pub wrong_k : book_of (with 6 (1 ∷ [])) ≡ faulty 10 5
  pub year_twice : book_of (year ++ year) ≡ faulty 10 149
  pub cut_between_records : book_of (take 11 year) ≡ faulty 10 11
  pub day_name_60 : book_of (with 3 (60 ∷ [])) ≡ faulty 9 0
  pub minute_1440 : book_of (with 9 (5 ∷ 160 ∷ [])) ≡ faulty 9 5

pub worked_books : WorkedBooks
unfolding sines tangents sine_entry tangent_entry half_up floor_div floor_mod solstice fraction root mean_place perigee in_circle anomaly mirrored folded between sine cosine height base long_side tangent last_minute angle_past angle equation run_on_place mark start count_from count term_day gone_on step_on rounded_minute carried_minute carried_day printed_day printed_minute term_values off_from in_order off_below terms_answer fill_answer day_name mansion record_size out_of_turn out_of_range record_answer terms_from year_from years_from terms_of bytes_of terms_in values_in read_answer any_bad bad_values write_answer worked_year worked_answer
worked_books =
    record {
      worked_terms = refl;
      worked_year_lem = refl;
      carried_terms = refl;
      carried_year = refl;
      written = refl;
      head_read_lem = refl;
      terms_read_lem = refl;
      whole = refl;
      none = refl;
      no_kind = refl;
      cut_inside_a_record = refl;
      head_twice = refl;
      wrong_k = refl;
      year_twice = refl;
      cut_between_records = refl;
      day_name_60 = refl;
      minute_1440 = refl;
    }
