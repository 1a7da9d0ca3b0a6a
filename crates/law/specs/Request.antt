-- Document 01's "Solstice program" as definitions on bytes: what a request line asks, what is written for it, the lines of an input;
-- and what the first of them asks, for the programs that read one line.
-- Assumes nothing.
use Rattle.std.specs.Prelude.{Bool, true, false, cond, ◌||◌, List, [], ◌∷◌, ◌++◌, ℕ, zero, suc, ◌+◌, ◌*◌, ◌-◌, ◌/◌, ◌%◌, ltb, eqb, ℤ, pos, neg_ℤ, nat_abs, length}
use Rattle.std.specs.Int.Signed.{lt_z}
use Rattle.reasoning.specs.Answer.{Answer, value, refused, refusing}
use Rattle.law.specs.Document.{day, bad_year, YearValues, year_answer}

-- ======== The bytes

abbrev pub newline : ℕ
newline = 10

abbrev pub space : ℕ
space = 32

abbrev pub minus_sign : ℕ
minus_sign = 45

abbrev pub colon : ℕ
colon = 58

-- the byte of the digit d
abbrev pub digit : ℕ → ℕ
digit d = 48 + d

-- a byte that is no digit: those of 0 to 9 are 48 to 57
abbrev pub no_digit : ℕ → Bool
no_digit b = ltb b 48 || ltb 57 b

-- ======== A request line

-- the number that digits write after those that wrote n: leading zeros are read as the number; anything else is refused 11
unfoldable pub number_from : ℕ → List ℕ → Answer ℕ
number_from n [] = value n
number_from n (b ∷ bs) = refusing (no_digit b) 11 (number_from (n * 10 + (b - 48)) bs)

-- with the minus or without: -0 is 0
abbrev pub signed_by : Bool → ℕ → ℤ
signed_by minus n = cond minus (neg_ℤ (pos n)) (pos n)

-- a number outside -2,000 to 2,000 is refused 1
abbrev pub year_asked : Bool → Answer ℕ → Answer ℤ
year_asked minus (value n) = refusing (bad_year (signed_by minus n)) 1 (value (signed_by minus n))
year_asked minus (refused k) = refused k

-- one to four digits, of which so many have been read and wrote n; else 11
abbrev pub one_to_four : Bool → ℕ → ℕ → List ℕ → Answer ℤ
one_to_four minus seen n bs =
    refusing (eqb (seen + length bs) 0 || ltb 4 (seen + length bs)) 11 (year_asked minus (number_from n bs))

-- a line is an optional minus and one to four digits; an empty line too is refused 11
unfoldable pub line_asks : List ℕ → Answer ℤ
line_asks [] = refused 11
line_asks (b ∷ bs) = cond (eqb b minus_sign) (one_to_four true 0 0 bs) (one_to_four false 0 0 (b ∷ bs))

-- ======== What is written for a line

-- a number of at most so many digits, without leading zeros
unfoldable pub digits_of : ℕ → ℕ → List ℕ
digits_of zero n = []
digits_of (suc most) n = cond (ltb n 10) (digit n ∷ []) (digits_of most (n / 10) ++ (digit (n % 10) ∷ []))

-- every number that is written has at most four
abbrev pub digits : ℕ → List ℕ
digits n = digits_of 4 n

-- two digits each
abbrev pub two_digits : ℕ → List ℕ
two_digits n = digit (n / 10) ∷ digit (n % 10) ∷ []

-- N, with its minus
unfoldable pub signed_digits : ℤ → List ℕ
signed_digits N = cond (lt_z N (pos 0)) (minus_sign ∷ digits (nat_abs N)) (digits (nat_abs N))

-- the hour of a fraction of a day, cut off
abbrev pub hour_of : ℕ → ℕ
hour_of fraction = fraction * 24 / day

-- the minute of that hour, cut off
abbrev pub minute_of : ℕ → ℕ
minute_of fraction = fraction * 1_440 / day % 60

-- N, day name, hour:minute of the mean solstice, mansion
unfoldable pub year_text : ℤ → YearValues → List ℕ
year_text N year =
    signed_digits N
    ++ ((space ∷ digits year.solstice_day)
    ++ ((space ∷ two_digits (hour_of year.solstice_fraction))
    ++ ((colon ∷ two_digits (minute_of year.solstice_fraction)) ++ ((space ∷ digits year.duty_mansion) ++ (newline ∷ [])))))

-- `refused` and a blank
abbrev pub refused_word : List ℕ
refused_word = 114 ∷ 101 ∷ 102 ∷ 117 ∷ 115 ∷ 101 ∷ 100 ∷ space ∷ []

-- `refused` and the number
unfoldable pub refused_text : ℕ → List ℕ
refused_text number = refused_word ++ (digits number ++ (newline ∷ []))

-- of a year's answer
abbrev pub year_written : ℤ → Answer YearValues → List ℕ
year_written N (value year) = year_text N year
year_written N (refused number) = refused_text number

-- of what a line asks
unfoldable pub answer_text : Answer ℤ → List ℕ
answer_text (value N) = year_written N (year_answer N)
answer_text (refused number) = refused_text number

-- ======== The lines of an input

-- a last line without its newline counts if it has bytes
abbrev pub last_line : List ℕ → List (List ℕ)
last_line [] = []
last_line (b ∷ bs) = (b ∷ bs) ∷ []

-- each line ends at a newline; these bytes of the next have been read
unfoldable pub lines_from : List ℕ → List ℕ → List (List ℕ)
lines_from line [] = last_line line
lines_from line (b ∷ bs) = cond (eqb b newline) (line ∷ lines_from [] bs) (lines_from (line ++ (b ∷ [])) bs)

-- what is written for each line, in order
unfoldable pub written_for : List (List ℕ) → List ℕ
written_for [] = []
written_for (line ∷ lines) = answer_text (line_asks line) ++ written_for lines

-- the output of an input
abbrev pub output : List ℕ → List ℕ
output input = written_for (lines_from [] input)

-- ======== The first line of an input

-- what the first of some lines asks; no line at all is refused 11
abbrev pub first_of : List (List ℕ) → Answer ℤ
first_of [] = refused 11
first_of (line ∷ lines) = line_asks line

-- what the first line of an input asks
abbrev pub first_asks : List ℕ → Answer ℤ
first_asks input = first_of (lines_from [] input)
