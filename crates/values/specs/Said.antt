-- What is given to this crate's calls and what they answer, in document 01's numbers. Assumes nothing.
use Rattle.std.specs.Prelude.{List, map, Result, Ok, Err}
use Rattle.reasoning.specs.Answer.{Answer}
use Rattle.law.specs.Book.{BookYear, HeadValues, Checked, sound, faulty}
use Rattle.units.specs.declared.refusal.Refusal.{Refusal}
use Rattle.units.specs.Said.{number_of, said}
use Rattle.sun.specs.declared.term.TermRecord.{TermRecord}
use Rattle.sun.specs.Said.{values_of_term}
use Rattle.book.specs.declared.fault.Fault.{Fault}
use Rattle.values.specs.declared.head.Head.{Head}
use Rattle.values.specs.declared.read.ReadValues.{ReadValues}

abbrev pub head_given : Head → HeadValues
head_given head = record { head_n = head.n; head_name = head.day_name; head_mansion = head.mansion }

-- a year's values as they are given to a call
abbrev pub given_year : Head → List TermRecord → BookYear
given_year head terms =
    record { year_n = head.n; year_name = head.day_name; year_mansion = head.mansion; year_terms = map values_of_term terms }

-- what is said of a year read by value: the byte after it, or the refusal and its byte
abbrev pub said_values : Result ReadValues Fault → Checked
said_values (Ok read) = sound read.end
said_values (Err fault) = faulty (number_of fault.refusal) fault.byte

abbrev pub said_written : Result Unit Refusal → Answer Unit
said_written = said (λ u. tt)
