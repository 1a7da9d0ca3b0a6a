-- What each call on a term book leaves, by document 01's answer. Assumes nothing.
use Rattle.std.specs.Prelude.{◌≡◌, List, ℕ, ℤ}
use Rattle.reasoning.specs.Answer.{Answer, value, refused}
use Rattle.law.specs.Book.{Checked, sound, faulty, Sought, found, unsound, no_year, BookYear, year_from, values_in}
use Rattle.corrections.specs.Corrections.{Which, the_corrections, the_main, Corrected, found_in, unsound_in, in_neither, sought_there}
use Rattle.verify.specs.Verify.{Verdict, ours, not_ours, refused_at}
use Rattle.bhromilun.specs.Told.{Lent, Stored}
use Rattle.bhromilun.specs.Columns.{days_of, minutes_of, terms_given}

-- ---- a book checked

abbrev pub fault_in : Checked → ℕ
fault_in (sound end) = 0
fault_in (faulty number byte) = number

abbrev pub byte_in : Checked → ℕ
byte_in (sound end) = end
byte_in (faulty number byte) = byte

-- the byte is stored either way
pub record ToldCheck (checked : Checked) (r : ℕ) (byte : Lent ℕ) : Type 0 where
  pub number : r ≡ fault_in checked
  pub at_byte : byte.after ≡ byte_in checked

-- ---- a year sought: what is not told stays as it was

abbrev pub sought_refusal : Sought → ℕ
sought_refusal (found start end) = 0
sought_refusal (unsound number byte) = number
sought_refusal (no_year number) = number

abbrev pub start_in : ℕ → Sought → ℕ
start_in before (found start end) = start
start_in before (unsound number byte) = before
start_in before (no_year number) = before

abbrev pub end_in : ℕ → Sought → ℕ
end_in before (found start end) = end
end_in before (unsound number byte) = before
end_in before (no_year number) = before

abbrev pub unsound_at : ℕ → Sought → ℕ
unsound_at before (found start end) = before
unsound_at before (unsound number byte) = byte
unsound_at before (no_year number) = before

pub record ToldSought (sought : Sought) (r : ℕ) (start end byte : Lent ℕ) : Type 0 where
  pub number : r ≡ sought_refusal sought
  pub part_start : start.after ≡ start_in start.before sought
  pub part_end : end.after ≡ end_in end.before sought
  pub fault_byte : byte.after ≡ unsound_at byte.before sought

-- ---- a year sought in the corrections, then in the main book: the same, and which book

abbrev pub which_number : Which → ℕ
which_number the_corrections = 0
which_number the_main = 1

abbrev pub which_in : ℕ → Corrected → ℕ
which_in before (found_in which start end) = which_number which
which_in before (unsound_in which number byte) = which_number which
which_in before (in_neither number) = before

pub record ToldCorrected (answer : Corrected) (r : ℕ) (which start end byte : Lent ℕ) : Type 0 where
  pub sought : ToldSought (sought_there answer) r start end byte
  pub which_book : which.after ≡ which_in which.before answer

-- ---- a partner's book: the byte stays where it is ours

-- the answer that a record is not ours, which is no refusal
abbrev pub not_ours_number : ℕ
not_ours_number = 100

abbrev pub verdict_number : Verdict → ℕ
verdict_number ours = 0
verdict_number (not_ours at) = not_ours_number
verdict_number (refused_at number byte) = number

abbrev pub verdict_byte : ℕ → Verdict → ℕ
verdict_byte before ours = before
verdict_byte before (not_ours at) = at
verdict_byte before (refused_at number byte) = byte

pub record ToldVerdict (verdict : Verdict) (r : ℕ) (byte : Lent ℕ) : Type 0 where
  pub number : r ≡ verdict_number verdict
  pub at_byte : byte.after ≡ verdict_byte byte.before verdict

-- ---- a year read: what is not told stays as it was

abbrev pub if_read : Checked → BookYear → Answer BookYear
if_read (sound end) year = value year
if_read (faulty number byte) year = refused number

-- the year at the start of the bytes
abbrev pub year_read : List ℕ → Answer BookYear
year_read b = if_read (year_from 0 0 b) (values_in b)

abbrev pub after_year : ℕ → Checked → ℕ
after_year before (sound end) = end
after_year before (faulty number byte) = before

abbrev pub fault_at : ℕ → Checked → ℕ
fault_at before (sound end) = before
fault_at before (faulty number byte) = byte

pub record ToldRead (b : List ℕ) (r : ℕ) (n : Lent ℤ) (day_name mansion : Lent ℕ) (days : Lent (List ℤ)) (minutes : Lent (List ℕ)) (end byte : Lent ℕ) : Type 0 where
  pub number : r ≡ fault_in (year_from 0 0 b)
  pub year_n : Stored (year_read b) (λ v. v.year_n) n
  pub year_name : Stored (year_read b) (λ v. v.year_name) day_name
  pub year_mansion : Stored (year_read b) (λ v. v.year_mansion) mansion
  pub term_days : Stored (year_read b) (λ v. days_of v.year_terms) days
  pub term_minutes : Stored (year_read b) (λ v. minutes_of v.year_terms) minutes
  pub year_end : end.after ≡ after_year end.before (year_from 0 0 b)
  pub fault_byte : byte.after ≡ fault_at byte.before (year_from 0 0 b)

-- ---- a year given to be written

abbrev pub year_given : ℤ → ℕ → ℕ → List ℤ → List ℕ → BookYear
year_given n day_name mansion days minutes =
    record { year_n = n; year_name = day_name; year_mansion = mansion; year_terms = terms_given days minutes }
