-- Document 01's six lines have the six answers that it gives; and lines at the edges, each with its newline unless its name says
-- otherwise; and what the first line of an input asks. The rows are the independent program's (tests/worked_facts.py). Assumes nothing.
use mathlib.Core.Path.{◌≡◌, refl}
use mathlib.Core.List.{List, [], ◌∷◌}
use Prim.Native.Nat.{ℕ}
use lib.IntN.{pos, neg_ℤ}
use Rattle.law.specs.Round.{half_up, floor_div, floor_mod}
use Rattle.reasoning.specs.Answer.{value, refused}
use Rattle.law.specs.Document.{solstice, day_name, fraction, mansion, root, year_answer}
use Rattle.law.specs.Request.{number_from, line_asks, digits_of, signed_digits, hour_of, minute_of, year_text, refused_text, answer_text, lines_from, written_for, output, first_asks}

abbrev refused_11 : List ℕ
refused_11 = 114 ∷ 101 ∷ 102 ∷ 117 ∷ 115 ∷ 101 ∷ 100 ∷ 32 ∷ 49 ∷ 49 ∷ 10 ∷ []

pub record WorkedLines : Type 0 where
  pub six : output (45 ∷ 54 ∷ 55 ∷ 54 ∷ 10 ∷ 45 ∷ 49 ∷ 10 ∷ 48 ∷ 10 ∷ 49 ∷ 10 ∷ 50 ∷ 48 ∷ 48 ∷ 49 ∷ 10 ∷ 120 ∷ []) ≡ 45 ∷ 54 ∷ 55 ∷ 54 ∷ 32 ∷ 51 ∷ 32 ∷ 50 ∷ 50 ∷ 58 ∷ 51 ∷ 48 ∷ 32 ∷ 54 ∷ 10 ∷ 45 ∷ 49 ∷ 32 ∷ 50 ∷ 32 ∷ 48 ∷ 57 ∷ 58 ∷ 53 ∷ 54 ∷ 32 ∷ 53 ∷ 10 ∷ 48 ∷ 32 ∷ 55 ∷ 32 ∷ 49 ∷ 53 ∷ 58 ∷ 52 ∷ 53 ∷ 32 ∷ 54 ∷ 10 ∷ 49 ∷ 32 ∷ 49 ∷ 50 ∷ 32 ∷ 50 ∷ 49 ∷ 58 ∷ 51 ∷ 51 ∷ 32 ∷ 55 ∷ 10 ∷ 114 ∷ 101 ∷ 102 ∷ 117 ∷ 115 ∷ 101 ∷ 100 ∷ 32 ∷ 49 ∷ 10 ∷ 114 ∷ 101 ∷ 102 ∷ 117 ∷ 115 ∷ 101 ∷ 100 ∷ 32 ∷ 49 ∷ 49 ∷ 10 ∷ []
  -- `12345`, `-12345`, `-0`, `0001`, `-0001`, `-`, `--1`, `1-`, `/`, `:`, `89`
  pub five_digits : output (49 ∷ 50 ∷ 51 ∷ 52 ∷ 53 ∷ 10 ∷ []) ≡ refused_11
  pub minus_and_five_digits : output (45 ∷ 49 ∷ 50 ∷ 51 ∷ 52 ∷ 53 ∷ 10 ∷ []) ≡ refused_11
  pub minus_zero : output (45 ∷ 48 ∷ 10 ∷ []) ≡ 48 ∷ 32 ∷ 55 ∷ 32 ∷ 49 ∷ 53 ∷ 58 ∷ 52 ∷ 53 ∷ 32 ∷ 54 ∷ 10 ∷ []
  pub leading_zeros : output (48 ∷ 48 ∷ 48 ∷ 49 ∷ 10 ∷ []) ≡ 49 ∷ 32 ∷ 49 ∷ 50 ∷ 32 ∷ 50 ∷ 49 ∷ 58 ∷ 51 ∷ 51 ∷ 32 ∷ 55 ∷ 10 ∷ []
  pub minus_and_leading_zeros : output (45 ∷ 48 ∷ 48 ∷ 48 ∷ 49 ∷ 10 ∷ []) ≡ 45 ∷ 49 ∷ 32 ∷ 50 ∷ 32 ∷ 48 ∷ 57 ∷ 58 ∷ 53 ∷ 54 ∷ 32 ∷ 53 ∷ 10 ∷ []
  pub minus_alone : output (45 ∷ 10 ∷ []) ≡ refused_11
  pub two_minuses : output (45 ∷ 45 ∷ 49 ∷ 10 ∷ []) ≡ refused_11
  pub minus_after : output (49 ∷ 45 ∷ 10 ∷ []) ≡ refused_11
  pub before_the_digits : output (47 ∷ 10 ∷ []) ≡ refused_11
  pub after_the_digits : output (58 ∷ 10 ∷ []) ≡ refused_11
  pub eight_and_nine : output (56 ∷ 57 ∷ 10 ∷ []) ≡ 56 ∷ 57 ∷ 32 ∷ 53 ∷ 52 ∷ 32 ∷ 48 ∷ 53 ∷ 58 ∷ 48 ∷ 51 ∷ 32 ∷ 53 ∷ 10 ∷ []
  -- `-2000` and `2000`; 2,001 stands among the six
  pub least : output (45 ∷ 50 ∷ 48 ∷ 48 ∷ 48 ∷ 10 ∷ []) ≡ 45 ∷ 50 ∷ 48 ∷ 48 ∷ 48 ∷ 32 ∷ 50 ∷ 51 ∷ 32 ∷ 48 ∷ 54 ∷ 58 ∷ 52 ∷ 53 ∷ 32 ∷ 49 ∷ 52 ∷ 10 ∷ []
  pub most : output (50 ∷ 48 ∷ 48 ∷ 48 ∷ 10 ∷ []) ≡ 50 ∷ 48 ∷ 48 ∷ 48 ∷ 32 ∷ 53 ∷ 50 ∷ 32 ∷ 48 ∷ 48 ∷ 58 ∷ 52 ∷ 53 ∷ 32 ∷ 50 ∷ 55 ∷ 10 ∷ []
  -- a newline alone, two of them, and nothing
  pub empty : output (10 ∷ []) ≡ refused_11
  pub two_empty : output (10 ∷ 10 ∷ []) ≡ 114 ∷ 101 ∷ 102 ∷ 117 ∷ 115 ∷ 101 ∷ 100 ∷ 32 ∷ 49 ∷ 49 ∷ 10 ∷ 114 ∷ 101 ∷ 102 ∷ 117 ∷ 115 ∷ 101 ∷ 100 ∷ 32 ∷ 49 ∷ 49 ∷ 10 ∷ []
  pub no_input : output [] ≡ []
  pub last_without_newline : output (49 ∷ 10 ∷ 45 ∷ 49 ∷ []) ≡ 49 ∷ 32 ∷ 49 ∷ 50 ∷ 32 ∷ 50 ∷ 49 ∷ 58 ∷ 51 ∷ 51 ∷ 32 ∷ 55 ∷ 10 ∷ 45 ∷ 49 ∷ 32 ∷ 50 ∷ 32 ∷ 48 ∷ 57 ∷ 58 ∷ 53 ∷ 54 ∷ 32 ∷ 53 ∷ 10 ∷ []
  -- the years -44 at 00:00, -28 at 21:00, 36 at 09:00; -13, 69 and -6
  pub midnight : output (45 ∷ 52 ∷ 52 ∷ 10 ∷ []) ≡ 45 ∷ 52 ∷ 52 ∷ 32 ∷ 49 ∷ 55 ∷ 32 ∷ 48 ∷ 48 ∷ 58 ∷ 48 ∷ 48 ∷ 32 ∷ 56 ∷ 10 ∷ []
  pub hour_21_minute_0 : output (45 ∷ 50 ∷ 56 ∷ 10 ∷ []) ≡ 45 ∷ 50 ∷ 56 ∷ 32 ∷ 52 ∷ 48 ∷ 32 ∷ 50 ∷ 49 ∷ 58 ∷ 48 ∷ 48 ∷ 32 ∷ 50 ∷ 55 ∷ 10 ∷ []
  pub hour_9_minute_0 : output (51 ∷ 54 ∷ 10 ∷ []) ≡ 51 ∷ 54 ∷ 32 ∷ 49 ∷ 54 ∷ 32 ∷ 48 ∷ 57 ∷ 58 ∷ 48 ∷ 48 ∷ 32 ∷ 50 ∷ 51 ∷ 10 ∷ []
  pub name_59 : output (45 ∷ 49 ∷ 51 ∷ 10 ∷ []) ≡ 45 ∷ 49 ∷ 51 ∷ 32 ∷ 53 ∷ 57 ∷ 32 ∷ 49 ∷ 50 ∷ 58 ∷ 49 ∷ 49 ∷ 32 ∷ 49 ∷ 56 ∷ 10 ∷ []
  pub name_9 : output (54 ∷ 57 ∷ 10 ∷ []) ≡ 54 ∷ 57 ∷ 32 ∷ 57 ∷ 32 ∷ 48 ∷ 56 ∷ 58 ∷ 52 ∷ 56 ∷ 32 ∷ 56 ∷ 10 ∷ []
  pub mansion_27 : output (45 ∷ 54 ∷ 10 ∷ []) ≡ 45 ∷ 54 ∷ 32 ∷ 51 ∷ 54 ∷ 32 ∷ 48 ∷ 52 ∷ 58 ∷ 53 ∷ 50 ∷ 32 ∷ 50 ∷ 55 ∷ 10 ∷ []
  -- what a line asks, before any year is worked out
  pub asks_least : line_asks (45 ∷ 50 ∷ 48 ∷ 48 ∷ 48 ∷ []) ≡ value (neg_ℤ (pos 2_000))
  pub asks_below : line_asks (45 ∷ 50 ∷ 48 ∷ 48 ∷ 49 ∷ []) ≡ refused 1
  pub asks_most : line_asks (50 ∷ 48 ∷ 48 ∷ 48 ∷ []) ≡ value (pos 2_000)
  pub asks_above : line_asks (50 ∷ 48 ∷ 48 ∷ 49 ∷ []) ≡ refused 1
  pub asks_nothing : line_asks [] ≡ refused 11
  -- what the first line asks: of no input, of a newline and `0`, of `-676` and `x`, and of `0` without its newline
  pub first_of_none : first_asks [] ≡ refused 11
  pub first_empty : first_asks (10 ∷ 48 ∷ 10 ∷ []) ≡ refused 11
  pub first_of_two : first_asks (45 ∷ 54 ∷ 55 ∷ 54 ∷ 10 ∷ 120 ∷ []) ≡ value (neg_ℤ (pos 676))
  pub first_without_newline : first_asks (48 ∷ []) ≡ value (pos 0)
  -- hours and minutes of fractions of a day, from both sides
  pub hour_0 : hour_of 41_666_666 ≡ 0
  pub hour_1 : hour_of 41_666_667 ≡ 1
  pub hour_last_but_one : hour_of 958_333_333 ≡ 22
  pub hour_last : hour_of 958_333_334 ≡ 23
  pub hour_before_midnight : hour_of 999_999_999 ≡ 23
  pub minute_0 : minute_of 694_444 ≡ 0
  pub minute_1 : minute_of 694_445 ≡ 1
  pub minute_last_but_one : minute_of 999_305_555 ≡ 58
  pub minute_last : minute_of 999_305_556 ≡ 59
  pub minute_before_midnight : minute_of 999_999_999 ≡ 59
  pub minute_60 : minute_of 41_666_667 ≡ 0
  pub minute_nearest : minute_of 4_861_111 ≡ 6

pub worked_lines : WorkedLines
unfolding lines_from written_for line_asks number_from answer_text year_text refused_text signed_digits digits_of year_answer solstice day_name fraction mansion root floor_div floor_mod half_up
worked_lines =
    record {
      six = refl;
      five_digits = refl;
      minus_and_five_digits = refl;
      minus_zero = refl;
      leading_zeros = refl;
      minus_and_leading_zeros = refl;
      minus_alone = refl;
      two_minuses = refl;
      minus_after = refl;
      before_the_digits = refl;
      after_the_digits = refl;
      eight_and_nine = refl;
      least = refl;
      most = refl;
      empty = refl;
      two_empty = refl;
      no_input = refl;
      last_without_newline = refl;
      midnight = refl;
      hour_21_minute_0 = refl;
      hour_9_minute_0 = refl;
      name_59 = refl;
      name_9 = refl;
      mansion_27 = refl;
      asks_least = refl;
      asks_below = refl;
      asks_most = refl;
      asks_above = refl;
      asks_nothing = refl;
      first_of_none = refl;
      first_empty = refl;
      first_of_two = refl;
      first_without_newline = refl;
      hour_0 = refl;
      hour_1 = refl;
      hour_last_but_one = refl;
      hour_last = refl;
      hour_before_midnight = refl;
      minute_0 = refl;
      minute_1 = refl;
      minute_last_but_one = refl;
      minute_last = refl;
      minute_before_midnight = refl;
      minute_60 = refl;
      minute_nearest = refl;
    }
