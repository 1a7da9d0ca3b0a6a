-- What is handed out of a sheet of corrections and the main book, and what is refused, for each order of two refusals and each book at
-- fault: the answer, the part, its book and where it starts. The rows are the independent program's (tests/worked_facts.py). Assumes nothing.
use mathlib.Core.Path.{◌≡◌, refl}
use mathlib.Core.List.{List, [], ◌∷◌}
use Prim.Native.Nat.{ℕ}
use lib.IntN.{ℤ, pos, neg_ℤ}
use lib.ListN.{take}
use Rattle.law.specs.Book.{record_size, out_of_turn, out_of_range, record_answer, terms_from, year_from, years_from, seek_from, seek_of, part_start}
use Rattle.corrections.specs.Corrections.{Which, the_corrections, the_main, Corrected, found_in, unsound_in, in_neither, corrected_of, came_from, sought_there, corrected_part}
use Rattle.law.proofs.WorkedBooks.{year, with}
use Rattle.law.proofs.WorkedParts.{next, last, three, twice, broken}

-- the year after 1684, its day name corrected
abbrev sheet : List ℕ
sheet = with 2 (209 ∷ 8 ∷ [])

-- the year N of these two books: the answer, the part, the book that it came from, and its start there
pub record Correcting (corrections main : List ℕ) (N : ℤ) (says : Corrected) (part : List ℕ) (which : Which) (start : ℕ) : Type 0 where
  pub finds : corrected_of corrections main N ≡ says
  pub hands : corrected_part corrections main says ≡ part
  pub hands_from : came_from says ≡ which
  pub hands_at : part_start (sought_there says) ≡ start

pub record WorkedCorrections : Type 0 where
  pub corrected : Correcting sheet three (pos 1) (found_in the_corrections 0 149) sheet the_corrections 0
  pub not_corrected : Correcting sheet three (pos 2) (found_in the_main 298 447) last the_main 298
  pub in_the_corrections_alone : Correcting sheet year (pos 1) (found_in the_corrections 0 149) sheet the_corrections 0
  pub in_neither_lem : Correcting sheet three (pos 3) (in_neither 12) [] the_corrections 0
  pub equal_books : Correcting three three (pos 1) (found_in the_corrections 149 298) next the_corrections 149
  pub empty_sheet : Correcting [] three (pos 1) (found_in the_main 149 298) next the_main 149
  pub empty_sheet_12 : Correcting [] three (pos 3) (in_neither 12) [] the_corrections 0
  pub empty_main : Correcting sheet [] (pos 1) (found_in the_corrections 0 149) sheet the_corrections 0
  pub empty_main_12 : Correcting sheet [] (pos 0) (in_neither 12) [] the_corrections 0
  pub both_empty : Correcting [] [] (pos 0) (in_neither 12) [] the_corrections 0
  -- each of a book's refusals, in either; the ends of the years
  pub corrections_7 : Correcting (take 8 year) three (pos 1) (unsound_in the_corrections 7 5) [] the_corrections 0
  pub main_7 : Correcting sheet (take 8 year) (pos 1) (unsound_in the_main 7 5) [] the_corrections 0
  pub corrections_8 : Correcting (with 0 (3 ∷ [])) three (pos 1) (unsound_in the_corrections 8 0) [] the_corrections 0
  pub main_8 : Correcting sheet (with 0 (3 ∷ [])) (pos 1) (unsound_in the_main 8 0) [] the_corrections 0
  pub corrections_9 : Correcting (with 9 (5 ∷ 160 ∷ [])) three (pos 1) (unsound_in the_corrections 9 5) [] the_corrections 0
  pub main_9 : Correcting sheet (with 9 (5 ∷ 160 ∷ [])) (pos 1) (unsound_in the_main 9 5) [] the_corrections 0
  pub corrections_10 : Correcting (with 6 (1 ∷ [])) three (pos 1) (unsound_in the_corrections 10 5) [] the_corrections 0
  pub main_10 : Correcting sheet (with 6 (1 ∷ [])) (pos 1) (unsound_in the_main 10 5) [] the_corrections 0
  pub least : Correcting (with 1 (0 ∷ 0 ∷ [])) three (neg_ℤ (pos 2_000)) (found_in the_corrections 0 149) (with 1 (0 ∷ 0 ∷ [])) the_corrections 0
  pub most : Correcting sheet (with 1 (15 ∷ 160 ∷ [])) (pos 2_000) (found_in the_main 0 149) (with 1 (15 ∷ 160 ∷ [])) the_main 0
  -- two refusals that meet: 1 for the year, the corrections', the main book's, 12
  pub year_corrections : Correcting broken three (pos 2_001) (in_neither 1) [] the_corrections 0
  pub year_main : Correcting sheet broken (neg_ℤ (pos 2_001)) (in_neither 1) [] the_corrections 0
  pub year_both : Correcting broken twice (pos 2_001) (in_neither 1) [] the_corrections 0
  pub year_12 : Correcting [] [] (neg_ℤ (pos 2_001)) (in_neither 1) [] the_corrections 0
  pub corrections_main : Correcting broken twice (pos 0) (unsound_in the_corrections 7 154) [] the_corrections 0
  pub corrections_main_changed_over : Correcting twice broken (pos 0) (unsound_in the_corrections 10 149) [] the_corrections 0
  pub corrections_12 : Correcting broken three (pos 3) (unsound_in the_corrections 7 154) [] the_corrections 0
  pub main_12 : Correcting sheet broken (pos 3) (unsound_in the_main 7 154) [] the_corrections 0
  -- a book at fault that has the year, or beside one that has it
  pub corrections_found : Correcting broken next (pos 0) (unsound_in the_corrections 7 154) [] the_corrections 0
  pub corrections_found_in_main : Correcting broken three (pos 2) (unsound_in the_corrections 7 154) [] the_corrections 0
  pub main_found : Correcting sheet twice (pos 0) (unsound_in the_main 10 149) [] the_corrections 0
  pub main_found_in_the_corrections : Correcting sheet broken (pos 1) (unsound_in the_main 7 154) [] the_corrections 0

pub worked_corrections : WorkedCorrections
unfolding record_size out_of_turn out_of_range record_answer terms_from year_from years_from seek_from seek_of corrected_of
worked_corrections =
    record {
      corrected = record { finds = refl; hands = refl; hands_from = refl; hands_at = refl };
      not_corrected = record { finds = refl; hands = refl; hands_from = refl; hands_at = refl };
      in_the_corrections_alone = record { finds = refl; hands = refl; hands_from = refl; hands_at = refl };
      in_neither_lem = record { finds = refl; hands = refl; hands_from = refl; hands_at = refl };
      equal_books = record { finds = refl; hands = refl; hands_from = refl; hands_at = refl };
      empty_sheet = record { finds = refl; hands = refl; hands_from = refl; hands_at = refl };
      empty_sheet_12 = record { finds = refl; hands = refl; hands_from = refl; hands_at = refl };
      empty_main = record { finds = refl; hands = refl; hands_from = refl; hands_at = refl };
      empty_main_12 = record { finds = refl; hands = refl; hands_from = refl; hands_at = refl };
      both_empty = record { finds = refl; hands = refl; hands_from = refl; hands_at = refl };
      corrections_7 = record { finds = refl; hands = refl; hands_from = refl; hands_at = refl };
      main_7 = record { finds = refl; hands = refl; hands_from = refl; hands_at = refl };
      corrections_8 = record { finds = refl; hands = refl; hands_from = refl; hands_at = refl };
      main_8 = record { finds = refl; hands = refl; hands_from = refl; hands_at = refl };
      corrections_9 = record { finds = refl; hands = refl; hands_from = refl; hands_at = refl };
      main_9 = record { finds = refl; hands = refl; hands_from = refl; hands_at = refl };
      corrections_10 = record { finds = refl; hands = refl; hands_from = refl; hands_at = refl };
      main_10 = record { finds = refl; hands = refl; hands_from = refl; hands_at = refl };
      least = record { finds = refl; hands = refl; hands_from = refl; hands_at = refl };
      most = record { finds = refl; hands = refl; hands_from = refl; hands_at = refl };
      year_corrections = record { finds = refl; hands = refl; hands_from = refl; hands_at = refl };
      year_main = record { finds = refl; hands = refl; hands_from = refl; hands_at = refl };
      year_both = record { finds = refl; hands = refl; hands_from = refl; hands_at = refl };
      year_12 = record { finds = refl; hands = refl; hands_from = refl; hands_at = refl };
      corrections_main = record { finds = refl; hands = refl; hands_from = refl; hands_at = refl };
      corrections_main_changed_over = record { finds = refl; hands = refl; hands_from = refl; hands_at = refl };
      corrections_12 = record { finds = refl; hands = refl; hands_from = refl; hands_at = refl };
      main_12 = record { finds = refl; hands = refl; hands_from = refl; hands_at = refl };
      corrections_found = record { finds = refl; hands = refl; hands_from = refl; hands_at = refl };
      corrections_found_in_main = record { finds = refl; hands = refl; hands_from = refl; hands_at = refl };
      main_found = record { finds = refl; hands = refl; hands_from = refl; hands_at = refl };
      main_found_in_the_corrections = record { finds = refl; hands = refl; hands_from = refl; hands_at = refl };
    }
