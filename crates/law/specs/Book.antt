-- The term book of document 01 as definitions, its section in its order and words: hold the two side by side. A list b of bytes is
-- what is left of a book, and at is the byte where it starts. Assumes nothing.
use Rattle.std.specs.Prelude.{Bool, false, cond, not, ◌||◌, List, [], ◌∷◌, ◌++◌, ℕ, zero, suc, ◌+◌, ◌*◌, ◌-◌, ◌/◌, ◌%◌, leb, ltb, eqb, ℤ, pos, ◌-ℤ◌, length, get_or, take, drop}
use Rattle.reasoning.specs.Answer.{Answer, value, refused, refusing}
use Rattle.law.specs.Index.{year_index, day_index}
use Rattle.reasoning.specs.InOrder.{in_order}
use Rattle.law.specs.Document.{bad_year, bad_day, bad_minute, day_name, mansion, TermValues, term_values, off_below}

-- ======== Records

-- numbers high byte first
abbrev pub two_at : List ℕ → ℕ → ℕ
two_at b i = get_or b i 0 * 256 + get_or b (i + 1) 0

-- kind 01, a year
abbrev pub is_head : ℕ → Bool
is_head kind = eqb kind 1

-- kind 02, a term
abbrev pub is_term : ℕ → Bool
is_term kind = eqb kind 2

-- one byte of kind, then a body whose length the kind fixes, 4 or 5; 0 for what is no kind
unfoldable pub record_size : ℕ → ℕ
record_size kind = cond (is_head kind) 5 (cond (is_term kind) 6 0)

-- what is due: a head whose N + 2,000 is at least so much, or term k
pub data Due : Type 0 where
  a_head : ℕ → Due
  a_term : ℕ → Due

-- out of turn: a head or term where the other is due, a k not due, or an N not above the year before
unfoldable pub out_of_turn : List ℕ → Due → Bool
out_of_turn b (a_head least) = not (is_head (get_or b 0 0)) || ltb (two_at b 1) least
out_of_turn b (a_term k) = not (is_term (get_or b 0 0)) || not (eqb (get_or b 1 0) k)

-- N + 2,000 in two bytes (0 to 4,000), day name (0 to 59), mansion (0 to 27); day + 4 in two (0 to 374), minute in two (0 to 1,439)
unfoldable pub out_of_range : List ℕ → Due → Bool
out_of_range b (a_head least) = ltb 4_000 (two_at b 1) || (ltb 59 (get_or b 3 0) || ltb 27 (get_or b 4 0))
out_of_range b (a_term k) = ltb 374 (two_at b 2) || ltb 1_439 (two_at b 4)

-- in a record: 8, 7, 10, 9
unfoldable pub record_answer : List ℕ → Due → Answer Unit
record_answer b due =
    refusing (eqb (record_size (get_or b 0 0)) 0) 8
    (refusing (ltb (length b) (record_size (get_or b 0 0))) 7
    (refusing (out_of_turn b due) 10 (refusing (out_of_range b due) 9 (value tt))))

-- ======== A year and a book

-- sound up to this byte; or a refusal's number, and the byte where the record at fault starts
pub data Checked : Type 0 where
  sound : ℕ → Checked
  faulty : ℕ → ℕ → Checked

-- the check ends at a record that is refused; else the next ones decide
abbrev pub or_faulty : Answer Unit → ℕ → Checked → Checked
or_faulty (value u) at next = next
or_faulty (refused n) at next = faulty n at

-- a book that ends between records inside a year is refused 10 at its length
abbrev pub record_then : List ℕ → Due → ℕ → Checked → Checked
record_then [] due at next = faulty 10 at
record_then (x ∷ b) due at next = or_faulty (record_answer (x ∷ b) due) at next

-- so many terms more, from term k on
unfoldable pub terms_from : ℕ → ℕ → ℕ → List ℕ → Checked
terms_from zero k at b = sound at
terms_from (suc left) k at b = record_then b (a_term k) at (terms_from left (suc k) (at + 6) (drop 6 b))

abbrev pub head_size : List ℕ → ℕ
head_size b = record_size (get_or b 0 0)

-- a year is its head and terms 0 to 23 in order
unfoldable pub year_from : ℕ → ℕ → List ℕ → Checked
year_from least at b = record_then b (a_head least) at (terms_from 24 0 (at + head_size b) (drop (head_size b) b))

-- the length of the year that starts b, by its head: 149 bytes
abbrev pub year_size : List ℕ → ℕ
year_size b = head_size b + 144

-- the least N + 2,000 that may follow that year
abbrev pub least_after : List ℕ → ℕ
least_after b = two_at b 1 + 1

abbrev pub and_then : Checked → Checked → Checked
and_then (sound e) next = next
and_then (faulty n at) next = faulty n at

-- at most so many years
unfoldable pub years_from : ℕ → ℕ → ℕ → List ℕ → Checked
years_from zero least at b = sound at
years_from (suc most) least at [] = sound at
years_from (suc most) least at (x ∷ b) =
    and_then (year_from least at (x ∷ b))
    (years_from most (least_after (x ∷ b)) (at + year_size (x ∷ b)) (drop (year_size (x ∷ b)) (x ∷ b)))

-- an empty book is sound; a book has no more years than bytes
abbrev pub book_from : ℕ → ℕ → List ℕ → Checked
book_from least at b = years_from (length b) least at b

abbrev pub book_of : List ℕ → Checked
book_of s = book_from 0 0 s

-- ======== Reading year by year

-- the byte after the year and the least N + 2,000 that may follow it; or the end; or a refusal and its byte
pub data Next : Type 0 where
  next_year : ℕ → ℕ → Next
  book_end : Next
  stop : ℕ → ℕ → Next

abbrev pub step_of : Checked → ℕ → Next
step_of (sound e) least = next_year e least
step_of (faulty n at) least = stop n at

-- each call hands out the next year, or the end, or a refusal
unfoldable pub next_at : List ℕ → ℕ → ℕ → Next
next_at s at least = cond (leb (length s) at) book_end (step_of (year_from least at (drop at s)) (least_after (drop at s)))

-- as that part of the caller's bytes; where no year is handed out, the part is empty
abbrev pub handed_part : List ℕ → ℕ → Next → List ℕ
handed_part s at (next_year e least) = take (e - at) (drop at s)
handed_part s at book_end = []
handed_part s at (stop n p) = []

-- the byte where that part starts; an empty part is put at the book's start
abbrev pub handed_start : ℕ → Next → ℕ
handed_start at (next_year e least) = at
handed_start at book_end = 0
handed_start at (stop n p) = 0

-- the byte to go on from: it then stays at that end or refusal
abbrev pub byte_after : ℕ → Next → ℕ
byte_after at (next_year e least) = e
byte_after at book_end = at
byte_after at (stop n p) = at

-- and the least N + 2,000 that may stand there
abbrev pub least_then : ℕ → Next → ℕ
least_then least (next_year e after) = after
least_then least book_end = least
least_then least (stop n p) = least

abbrev pub hand_out : Next → List ℕ → ℕ → (ℕ → ℕ → List (List ℕ)) → List (List ℕ)
hand_out (next_year e least) s at more = take (e - at) (drop at s) ∷ more e least
hand_out book_end s at more = []
hand_out (stop n p) s at more = []

-- the parts of the caller's bytes that so many calls hand out, from a byte on
unfoldable pub parts_from : ℕ → List ℕ → ℕ → ℕ → List (List ℕ)
parts_from zero s at least = []
parts_from (suc calls) s at least = hand_out (next_at s at least) s at (parts_from calls s)

abbrev pub parts_of : List ℕ → List (List ℕ)
parts_of s = parts_from (length s) s 0 0

abbrev pub together : List (List ℕ) → List ℕ
together [] = []
together (p ∷ ps) = p ++ together ps

-- ======== Seeking a year

-- where its part starts and ends; or the book's refusal and its byte; or a refusal with no byte
pub data Sought : Type 0 where
  found : ℕ → ℕ → Sought
  unsound : ℕ → ℕ → Sought
  no_year : ℕ → Sought

-- the year whose index is y, among at most so many
unfoldable pub seek_from : ℕ → ℕ → ℕ → List ℕ → Sought
seek_from zero y at b = no_year 12
seek_from (suc most) y at [] = no_year 12
seek_from (suc most) y at (x ∷ b) =
    cond (eqb (two_at (x ∷ b) 1) y) (found at (at + year_size (x ∷ b)))
    (seek_from most y (at + year_size (x ∷ b)) (drop (year_size (x ∷ b)) (x ∷ b)))

abbrev pub seek_in : ℕ → ℕ → List ℕ → Sought
seek_in y at b = seek_from (length b) y at b

abbrev pub if_sound : Checked → Sought → Sought
if_sound (sound e) answer = answer
if_sound (faulty n at) answer = unsound n at

-- 1, then the whole book, then 12
unfoldable pub seek_of : List ℕ → ℤ → Sought
seek_of s N = cond (bad_year N) (no_year 1) (if_sound (book_of s) (seek_in (year_index N) 0 s))

-- seeking a year hands out its part; where no year is handed out, the part is empty
abbrev pub part_of : List ℕ → Sought → List ℕ
part_of s (found a e) = take (e - a) (drop a s)
part_of s (unsound n at) = []
part_of s (no_year n) = []

-- the byte where that part starts; an empty part is put at the book's start
abbrev pub part_start : Sought → ℕ
part_start (found a e) = a
part_start (unsound n at) = 0
part_start (no_year n) = 0

-- ======== Between bytes and values

-- N, day name, mansion and the terms
pub record BookYear : Type 0 where
  pub year_n : ℤ
  pub year_name : ℕ
  pub year_mansion : ℕ
  pub year_terms : List TermValues

-- a number in two bytes, the high one first, before the rest
abbrev pub two_of : ℕ → List ℕ → List ℕ
two_of x rest = x / 256 % 256 ∷ x % 256 ∷ rest

-- the terms from term k on, before the rest; no count is heeded
unfoldable pub terms_of : ℕ → List TermValues → List ℕ → List ℕ
terms_of k [] rest = rest
terms_of k (t ∷ ts) rest = 2 ∷ k ∷ two_of (day_index t.day_of_term) (two_of t.minute_of_term (terms_of (suc k) ts rest))

-- a year's bytes, before the rest
unfoldable pub bytes_of : BookYear → List ℕ → List ℕ
bytes_of v rest = 1 ∷ two_of (year_index v.year_n) (v.year_name ∷ v.year_mansion ∷ terms_of 0 v.year_terms rest)

-- the term at the start of b, its count 0
abbrev pub term_in : List ℕ → TermValues
term_in b = record { day_of_term = pos (two_at b 2) -ℤ pos 4; minute_of_term = two_at b 4; count_of_term = 0 }

unfoldable pub terms_in : ℕ → List ℕ → List TermValues
terms_in zero b = []
terms_in (suc left) b = term_in b ∷ terms_in left (drop 6 b)

-- the year at the start of b; bytes after it are not looked at
unfoldable pub values_in : List ℕ → BookYear
values_in b =
    record {
      year_n = pos (two_at b 1) -ℤ pos 2_000;
      year_name = get_or b 3 0;
      year_mansion = get_or b 4 0;
      year_terms = terms_in 24 (drop (head_size b) b);
    }

-- a year is read into a list of so many records: 6 for the list, then as the book does
unfoldable pub read_answer : List ℕ → ℕ → Answer Checked
read_answer b room = refusing (ltb room 24) 6 (value (year_from 0 0 b))

-- N, day name and mansion
pub record HeadValues : Type 0 where
  pub head_n : ℤ
  pub head_name : ℕ
  pub head_mansion : ℕ

abbrev pub head_of : BookYear → HeadValues
head_of v = record { head_n = v.year_n; head_name = v.year_name; head_mansion = v.year_mansion }

-- they are 0 on a refusal
abbrev pub head_read : Answer Checked → List ℕ → HeadValues
head_read (value (sound e)) b = head_of (values_in b)
head_read (value (faulty n at)) b = record { head_n = pos 0; head_name = 0; head_mansion = 0 }
head_read (refused n) b = record { head_n = pos 0; head_name = 0; head_mansion = 0 }

-- the records that the list is filled with
abbrev pub terms_read : Answer Checked → List ℕ → Answer (List TermValues)
terms_read (value (sound e)) b = value (values_in b).year_terms
terms_read (value (faulty n at)) b = refused n
terms_read (refused n) b = refused n

-- ======== Writing

-- 9: a day outside -4 to 370 or a minute above 1,439, given to be written
abbrev pub bad_term_values : TermValues → Bool
bad_term_values t = bad_day t.day_of_term || bad_minute t.minute_of_term

unfoldable pub any_bad : List TermValues → Bool
any_bad [] = false
any_bad (t ∷ ts) = bad_term_values t || any_bad ts

-- 9 for any other value than N
unfoldable pub bad_values : BookYear → Bool
bad_values v = ltb 59 v.year_name || (ltb 27 v.year_mansion || any_bad v.year_terms)

-- what the buffer b comes to hold, its first 149 bytes filled and the later ones staying; the terms are the first 24 records of a
-- list. Refuses 1, then 6 for list or buffer, then 9
unfoldable pub write_answer : BookYear → List ℕ → Answer (List ℕ)
write_answer v b =
    refusing (bad_year v.year_n) 1
    (refusing (ltb (length v.year_terms) 24 || ltb (length b) 149) 6
    (refusing (bad_values v) 9 (value (bytes_of v (drop 149 b)))))

-- the writer works out one year
unfoldable pub worked_year : ℕ → ℤ → BookYear
worked_year e N =
    record { year_n = N; year_name = day_name N; year_mansion = mansion N; year_terms = in_order (term_values e N) 24 }

-- 1, 6, 5
unfoldable pub worked_answer : ℕ → ℤ → List ℕ → Answer (List ℕ)
worked_answer e N b =
    refusing (bad_year N) 1
    (refusing (ltb (length b) 149) 6 (refusing (off_below e N 24) 5 (value (bytes_of (worked_year e N) (drop 149 b)))))
