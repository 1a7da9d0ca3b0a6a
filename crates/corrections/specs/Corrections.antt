-- A sheet of corrections beside the book: document 02's request K1 as definitions, in its words. The corrections and the main book are
-- both term books, each given by its bytes. Assumes nothing.
use Rattle.std.specs.Prelude.{cond, List, ℕ, ℤ}
use Rattle.law.specs.Document.{bad_year}
use Rattle.law.specs.Book.{Checked, sound, faulty, book_of, Sought, found, unsound, no_year, seek_of, part_of}

-- "and say which": one of the two lent books
pub data Which : Type 0 where
  the_corrections : Which
  the_main : Which

-- the year's part of that book, where it starts and ends; or that book's refusal and its byte; or a refusal of neither book
pub data Corrected : Type 0 where
  found_in : Which → ℕ → ℕ → Corrected
  unsound_in : Which → ℕ → ℕ → Corrected
  in_neither : ℕ → Corrected

-- what seeking in one of the books says
abbrev pub said_of : Which → Sought → Corrected
said_of which (found start end) = found_in which start end
said_of which (unsound number byte) = unsound_in which number byte
said_of which (no_year number) = in_neither number

-- a book is checked whole before anything further
abbrev pub checked_first : Which → Checked → Corrected → Corrected
checked_first which (sound end) further = further
checked_first which (faulty number byte) further = unsound_in which number byte

-- the year from the corrections if it is there, else from the main book
abbrev pub else_from_main : Sought → Sought → Corrected
else_from_main (found start end) inMain = found_in the_corrections start end
else_from_main (unsound number byte) inMain = said_of the_main inMain
else_from_main (no_year number) inMain = said_of the_main inMain

-- both books are checked whole, corrections first: 1, then the corrections' 7 to 10, then the main book's, then 12 if neither has it
unfoldable pub corrected_of : List ℕ → List ℕ → ℤ → Corrected
corrected_of corrections main N =
    cond (bad_year N) (in_neither 1)
    (checked_first the_corrections (book_of corrections)
    (checked_first the_main (book_of main) (else_from_main (seek_of corrections N) (seek_of main N))))

-- ---- the part handed out: "that part of whichever lent book it came from"

-- of the corrections and the main book, that one
abbrev pub that_one : {Lent : Type 0} → Which → Lent → Lent → Lent
that_one the_corrections corrections main = corrections
that_one the_main corrections main = main

-- the book that the part belongs to; where no year is handed out the part is empty, and is put at the start of the corrections
abbrev pub came_from : Corrected → Which
came_from (found_in which start end) = which
came_from (unsound_in which number byte) = the_corrections
came_from (in_neither number) = the_corrections

-- the same answer without which book, as seeking in one book says it
abbrev pub sought_there : Corrected → Sought
sought_there (found_in which start end) = found start end
sought_there (unsound_in which number byte) = unsound number byte
sought_there (in_neither number) = no_year number

-- the part's bytes; it starts in that book at `part_start` of the answer
abbrev pub corrected_part : List ℕ → List ℕ → Corrected → List ℕ
corrected_part corrections main answer = part_of (that_one (came_from answer) corrections main) (sought_there answer)
