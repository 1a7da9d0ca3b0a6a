-- What this crate's answers say, in document 01's numbers. Assumes nothing.
use Rattle.std.specs.Prelude.{ℕ, Result}
use Rattle.reasoning.specs.Answer.{Answer}
use Rattle.law.specs.Document.{YearValues, TermValues, CrossingValues}
use Rattle.motion.specs.Working.{Find}
use Rattle.units.specs.declared.refusal.Refusal.{Refusal}
use Rattle.units.specs.Said.{said}
use Rattle.sun.specs.YearAndDay.{Midnights}
use Rattle.sun.specs.declared.midnight.CountedYear.{CountedYear}
use Rattle.sun.specs.declared.midnight.Midnight.{Midnight}
use Rattle.sun.specs.declared.found.Found.{Found}
use Rattle.sun.specs.declared.term.TermRecord.{TermRecord}
use Rattle.sun.specs.declared.term.Crossing.{Crossing}
use Rattle.sun.specs.declared.year.Year.{Year}

abbrev pub values_of_year : Year → YearValues
values_of_year year =
    record { solstice_day = year.day_name; solstice_fraction = year.fraction; duty_mansion = year.mansion; year_root = year.root }

abbrev pub said_year : Result Year Refusal → Answer YearValues
said_year = said values_of_year

abbrev pub said_counted : Result CountedYear Refusal → Answer ℕ
said_counted = said (λ year. year.y)

abbrev pub values_of_midnight : Midnight → Midnights
values_of_midnight at = record { y = at.year.y; j = at.day }

abbrev pub said_midnight : Result Midnight Refusal → Answer Midnights
said_midnight = said values_of_midnight

-- ---- terms

-- what a private search found
abbrev pub values_of_found : Found → Find
values_of_found found = record { day_found = found.day; gone_found = found.gone; step_found = found.step; count_found = found.count }

abbrev pub said_walked : Result Found Refusal → Answer Find
said_walked = said values_of_found

abbrev pub values_of_term : TermRecord → TermValues
values_of_term term = record { day_of_term = term.day; minute_of_term = term.minute; count_of_term = term.count }

abbrev pub said_term : Result TermRecord Refusal → Answer TermValues
said_term = said values_of_term

abbrev pub values_of_crossing : Crossing → CrossingValues
values_of_crossing found = record { day_of_crossing = found.day; minute_of_crossing = found.minute }

abbrev pub said_crossing : Result Crossing Refusal → Answer CrossingValues
said_crossing = said values_of_crossing
