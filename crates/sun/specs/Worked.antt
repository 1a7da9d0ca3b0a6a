-- A year worked out by value. Assumes nothing.
use Rattle.std.specs.Prelude.{List, map, ◌≡◌, ℕ, ℤ, pos, Result, IfOk}
use Rattle.reasoning.specs.Answer.{Answer, value}
use Rattle.reasoning.specs.InOrder.{in_order}
use Rattle.law.specs.Document.{epicycles, year_values, TermValues}
use Rattle.motion.specs.Working.{year_of, term_of}
use Rattle.units.specs.declared.refusal.Refusal.{Refusal}
use Rattle.units.specs.Said.{said}
use Rattle.sun.specs.declared.term.TermRecord.{TermRecord}
use Rattle.sun.specs.declared.worked_year.WorkedYear.{WorkedYear}
use Rattle.sun.specs.Said.{values_of_term, values_of_year}

-- what a list of records begins with
abbrev pub zero_record : TermRecord
zero_record = record { day = pos 0; minute = 0; count = 0 }

-- what is said of a year worked out: its terms, or a refusal
abbrev pub said_worked : Result WorkedYear Refusal → Answer (List TermValues)
said_worked = said (λ worked. map values_of_term worked.terms)

-- what is known of a year that was worked out from its index
pub record WorkedIn (y : ℕ) (r : Result WorkedYear Refusal) : Type 0 where
  pub says : said_worked r ≡ value (in_order (term_of epicycles y) 24)
  pub values : IfOk r (λ worked. values_of_year worked.year ≡ year_of y)

-- a year worked out: its terms or the refusal, and where there is no refusal the year's values
pub record WorkedOut (N : ℤ) (answer : Answer (List TermValues)) (r : Result WorkedYear Refusal) : Type 0 where
  pub says : said_worked r ≡ answer
  pub values : IfOk r (λ worked. values_of_year worked.year ≡ year_values N)
