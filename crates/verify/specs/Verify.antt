-- A partner's book checked against ours: document 02's request K4 as definitions, in its words. A list b of bytes is a year's part of the
-- book, or what is left of it, and at is the byte of the book where it starts. Assumes nothing.
use Rattle.std.specs.Prelude.{Bool, true, false, not, ◌||◌, List, [], ◌∷◌, map, ℕ, ◌+◌, eqb, ℤ, pos, ◌-ℤ◌, length, get_or, drop, replicate}
use Rattle.reasoning.specs.Answer.{afterwards}
use Rattle.law.specs.Document.{TermValues}
use Rattle.law.specs.Index.{day_index}
use Rattle.law.specs.Book.{BookYear, Checked, sound, faulty, two_at, head_size, book_of, parts_of, together, worked_year, worked_answer}

-- ours; or the byte where the first record starts that isn't; or the book's refusal and its byte
pub data Verdict : Type 0 where
  ours : Verdict
  not_ours : ℕ → Verdict
  refused_at : ℕ → ℕ → Verdict

-- a head is ours by its day name and mansion
unfoldable pub head_differs : List ℕ → BookYear → Bool
head_differs b v = not (eqb (get_or b 3 0) v.year_name) || not (eqb (get_or b 4 0) v.year_mansion)

-- a term by its day, which the record counts from -4 on, and its minute
unfoldable pub term_differs : List ℕ → TermValues → Bool
term_differs b t = not (eqb (two_at b 2) (day_index t.day_of_term)) || not (eqb (two_at b 4) t.minute_of_term)

-- the comparison ends at a record that isn't ours; else the next ones decide
abbrev pub not_ours_if : Bool → ℕ → Verdict → Verdict
not_ours_if true at next = not_ours at
not_ours_if false at next = next

-- a year's terms, beside ours
unfoldable pub terms_verdict : ℕ → List ℕ → List TermValues → Verdict
terms_verdict at b [] = ours
terms_verdict at b (t ∷ ts) = not_ours_if (term_differs b t) at (terms_verdict (at + 6) (drop 6 b) ts)

-- a year, its head first
unfoldable pub year_beside : ℕ → List ℕ → BookYear → Verdict
year_beside at b v = not_ours_if (head_differs b v) at (terms_verdict (at + head_size b) (drop (head_size b) b) v.year_terms)

-- the N of the year that starts b
abbrev pub number_in : List ℕ → ℤ
number_in b = pos (two_at b 1) -ℤ pos 2_000

-- ours is the year of that N, as our writer works it out
abbrev pub year_verdict : ℕ → ℕ → List ℕ → Verdict
year_verdict e at b = year_beside at b (worked_year e (number_in b))

-- the first verdict that isn't "ours" stands
abbrev pub unless_ours : Verdict → Verdict → Verdict
unless_ours ours next = next
unless_ours (not_ours at) next = not_ours at
unless_ours (refused_at number byte) next = refused_at number byte

-- the years, one after the other, as the reader hands out their parts
unfoldable pub years_verdict : ℕ → ℕ → List (List ℕ) → Verdict
years_verdict e at [] = ours
years_verdict e at (b ∷ bs) = unless_ours (year_verdict e at b) (years_verdict e (at + length b) bs)

-- the book's 7 to 10, before any comparison
abbrev pub after_check : Checked → Verdict → Verdict
after_check (sound end) verdict = verdict
after_check (faulty number byte) verdict = refused_at number byte

unfoldable pub verdict_of : ℕ → List ℕ → Verdict
verdict_of e s = after_check (book_of s) (years_verdict e 0 (parts_of s))

-- ---- our writer's years

-- what our writer fills a buffer of 149 bytes with
abbrev pub written_year : ℕ → ℤ → List ℕ
written_year e N = afterwards (replicate 149 0) (worked_answer e N (replicate 149 0))

-- years of these Ns put together
abbrev pub written_years : ℕ → List ℤ → List ℕ
written_years e Ns = together (map (written_year e) Ns)

-- the Ns of a book's own years
abbrev pub numbers_of : List ℕ → List ℤ
numbers_of s = map number_in (parts_of s)
