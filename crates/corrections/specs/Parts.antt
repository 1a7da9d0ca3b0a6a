-- What is handed out of two lent books: the answer, and the part with its place in the book that it came from. Assumes nothing.
use Rattle.std.specs.Prelude.{List, ◌≡◌, ℕ, ◌≤◌, ℤ, length, Result, IfOk}
use Rattle.std.specs.Borrow.{Bor}
use Rattle.law.specs.Book.{seek_of}
use Rattle.corrections.specs.Corrections.{Corrected, found_in, unsound_in, in_neither, said_of, corrected_of, that_one, came_from, sought_there}
use Rattle.book.specs.Reader.{PartSought}
use Rattle.corrections.specs.declared.Which.{Which}
use Rattle.corrections.specs.declared.CorrectedYear.{CorrectedYear}
use Rattle.corrections.specs.declared.NoYear.{NoYear}
use Rattle.corrections.specs.Said.{said_which, said_corrected}

-- the part that this answer means: that very part of the corrections or of the main book, and no equal bytes elsewhere
abbrev pub PartCorrected : Bor (List ℕ) → Bor (List ℕ) → Corrected → Bor (List ℕ) → Type 0
PartCorrected corrections main answer part = PartSought (that_one (came_from answer) corrections main) (sought_there answer) part

pub record HandedOut (corrections main : Bor (List ℕ)) (N : ℤ) (r : Result CorrectedYear NoYear) : Type 0 where
  pub answer : said_corrected r ≡ corrected_of corrections.now main.now N
  pub part : IfOk r (λ year. PartCorrected corrections main (corrected_of corrections.now main.now N) year.part)

-- the same of one book alone
pub record HandedOf (which : Which) (lent : Bor (List ℕ)) (N : ℤ) (r : Result CorrectedYear NoYear) : Type 0 where
  pub answer : said_corrected r ≡ said_of (said_which which) (seek_of lent.now N)
  pub part : IfOk r (λ year. PartSought lent (seek_of lent.now N) year.part)

-- what is found lies within its book
abbrev pub LiesWithin : List ℕ → List ℕ → Corrected → Type 0
LiesWithin corrections main (found_in which start end) = (start ≤ end) × (end ≤ length (that_one which corrections main))
LiesWithin corrections main (unsound_in which number byte) = Unit
LiesWithin corrections main (in_neither number) = Unit
