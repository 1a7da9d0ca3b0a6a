-- What is said of a year read into a list, and left in it. b is the lent bytes. Assumes nothing.
use Rattle.std.specs.Prelude.{List, map, ◌≡◌, ℕ, length, Result, Ok, Err, IfOk}
use Rattle.reasoning.specs.Answer.{Answer, value, refused}
use Rattle.law.specs.Document.{filled}
use Rattle.law.specs.Book.{Checked, sound, faulty, read_answer, head_read, terms_read}
use Rattle.units.specs.Said.{number_of}
use Rattle.sun.specs.declared.term.TermRecord.{TermRecord}
use Rattle.sun.specs.Said.{values_of_term}
use Rattle.book.specs.declared.seek.NoYear.{NoYear}
use Rattle.book.specs.declared.seek.NoYear.TheVariants.{Unsound, Refused}
use Rattle.values.specs.Said.{head_given}
use Rattle.lists.specs.declared.read.ReadYear.{ReadYear}

-- the byte after the year; or the book's refusal and its byte; or refusal 6
abbrev pub said_read : Result ReadYear NoYear → Answer Checked
said_read (Ok year) = value (sound year.end)
said_read (Err (Unsound fault)) = value (faulty (number_of fault.refusal) fault.byte)
said_read (Err (Refused refusal)) = refused (number_of refusal)

-- what is said of a year read, and where it is sound its head
pub record YearRead (b : List ℕ) (answer : Answer Checked) (r : Result ReadYear NoYear) : Type 0 where
  pub says : said_read r ≡ answer
  pub head : IfOk r (λ year. head_given year.head ≡ head_read answer b)

-- the same year, and its terms in a list, which stays as it was on a refusal
pub record ListRead (b : List ℕ) (before after : List TermRecord) (r : Result ReadYear NoYear) : Type 0 where
  pub year : YearRead b (read_answer b (length before)) r
  pub list : map values_of_term after ≡ filled (terms_read (read_answer b (length before)) b) (map values_of_term before)
