-- What a reader's calls and seeking hand out of a book of three years, and of one at fault; where the reader then stands, and that it
-- stays there. The rows are the independent program's (tests/worked_facts.py). Assumes nothing.
use mathlib.Core.Path.{◌≡◌, refl}
use mathlib.Core.List.{List, [], ◌∷◌, ◌++◌}
use Prim.Native.Nat.{ℕ}
use lib.IntN.{ℤ, pos}
use lib.ListN.{take}
use Rattle.law.specs.Book.{record_size, out_of_turn, out_of_range, record_answer, terms_from, year_from, years_from, book_of, sound, faulty, Next, next_year, book_end, stop, next_at, handed_part, handed_start, byte_after, least_then, parts_from, parts_of, together, Sought, found, unsound, no_year, seek_from, seek_of, part_of, part_start}
use Rattle.law.proofs.WorkedBooks.{year, with}

-- the two years after, a book of all three, one with the same year twice, and one that is cut inside a term of its second year
abbrev pub next : List ℕ
next = with 2 (209 ∷ [])

abbrev pub last : List ℕ
last = with 2 (210 ∷ [])

abbrev pub three : List ℕ
three = year ++ (next ++ last)

abbrev pub twice : List ℕ
twice = year ++ year

abbrev pub broken : List ℕ
broken = year ++ take 8 next

-- a call at this byte, with the least N + 2,000 that may stand there: what it finds, the part and its start, the byte and least then
pub record Call (s : List ℕ) (at least : ℕ) (says : Next) (part : List ℕ) (start byte after : ℕ) : Type 0 where
  pub finds : next_at s at least ≡ says
  pub hands : handed_part s at (next_at s at least) ≡ part
  pub hands_from : handed_start at (next_at s at least) ≡ start
  pub stands : byte_after at (next_at s at least) ≡ byte
  pub may_follow : least_then least (next_at s at least) ≡ after

-- seeking the year N: the answer, the part and its start
pub record Seeking (s : List ℕ) (N : ℤ) (says : Sought) (part : List ℕ) (start : ℕ) : Type 0 where
  pub finds : seek_of s N ≡ says
  pub hands : part_of s (seek_of s N) ≡ part
  pub hands_from : part_start (seek_of s N) ≡ start

pub record WorkedParts : Type 0 where
  pub first : Call three 0 0 (next_year 149 2_001) year 0 149 2_001
  pub second : Call three 149 2_001 (next_year 298 2_002) next 149 298 2_002
  pub third : Call three 298 2_002 (next_year 447 2_003) last 298 447 2_003
  pub end : Call three 447 2_003 book_end [] 0 447 2_003
  pub past_the_end : Call three 448 2_003 book_end [] 0 448 2_003
  pub out_of_turn_lem : Call twice 149 2_001 (stop 10 149) [] 0 149 2_001
  pub cut : Call broken 149 2_001 (stop 7 154) [] 0 149 2_001
  pub of_nothing : Call [] 0 0 book_end [] 0 0 0
  pub three_sound : book_of three ≡ sound 447
  pub broken_at : book_of broken ≡ faulty 7 154
  pub parts_of_three : parts_of three ≡ year ∷ next ∷ last ∷ []
  pub parts_of_twice : parts_of twice ≡ year ∷ []
  pub parts_together : together (parts_of three) ≡ three
  pub seek_first : Seeking three (pos 0) (found 0 149) year 0
  pub seek_second : Seeking three (pos 1) (found 149 298) next 149
  pub seek_absent : Seeking three (pos 3) (no_year 12) [] 0
  pub seek_in_twice : Seeking twice (pos 0) (unsound 10 149) [] 0
  pub seek_in_nothing : Seeking [] (pos 0) (no_year 12) [] 0

pub worked_parts : WorkedParts
unfolding record_size out_of_turn out_of_range record_answer terms_from year_from years_from next_at parts_from seek_from seek_of
worked_parts =
    record {
      first = record { finds = refl; hands = refl; hands_from = refl; stands = refl; may_follow = refl };
      second = record { finds = refl; hands = refl; hands_from = refl; stands = refl; may_follow = refl };
      third = record { finds = refl; hands = refl; hands_from = refl; stands = refl; may_follow = refl };
      end = record { finds = refl; hands = refl; hands_from = refl; stands = refl; may_follow = refl };
      past_the_end = record { finds = refl; hands = refl; hands_from = refl; stands = refl; may_follow = refl };
      out_of_turn_lem = record { finds = refl; hands = refl; hands_from = refl; stands = refl; may_follow = refl };
      cut = record { finds = refl; hands = refl; hands_from = refl; stands = refl; may_follow = refl };
      of_nothing = record { finds = refl; hands = refl; hands_from = refl; stands = refl; may_follow = refl };
      three_sound = refl;
      broken_at = refl;
      parts_of_three = refl;
      parts_of_twice = refl;
      parts_together = refl;
      seek_first = record { finds = refl; hands = refl; hands_from = refl };
      seek_second = record { finds = refl; hands = refl; hands_from = refl };
      seek_absent = record { finds = refl; hands = refl; hands_from = refl };
      seek_in_twice = record { finds = refl; hands = refl; hands_from = refl };
      seek_in_nothing = record { finds = refl; hands = refl; hands_from = refl };
    }
