-- What this crate's answers say, in document 01's numbers. Assumes nothing.
use Rattle.std.specs.Prelude.{ℕ, Option, Some, None, Result, Ok, Err}
use Rattle.reasoning.specs.Answer.{Answer}
use Rattle.law.specs.Book.{Due, a_head, a_term, Checked, sound, faulty, Next, next_year, book_end, stop, Sought, found, unsound, no_year}
use Rattle.units.specs.declared.refusal.Refusal.{Refusal}
use Rattle.units.specs.Said.{number_of, said}
use Rattle.book.specs.declared.fault.Fault.{Fault}
use Rattle.book.specs.declared.record.Due.{Due as DueRecord}
use Rattle.book.specs.declared.record.Due.TheVariants.{Head, Term}
use Rattle.book.specs.declared.year.Next.{Next as NextYear}
use Rattle.book.specs.declared.seek.Part.{Part}
use Rattle.book.specs.declared.seek.NoYear.{NoYear}
use Rattle.book.specs.declared.seek.NoYear.TheVariants.{Unsound, Refused}

abbrev pub said_due : DueRecord → Due
said_due (Head least) = a_head least
said_due (Term k) = a_term k

-- a record of this length, or its refusal
abbrev pub said_record : Result ℕ Refusal → Answer Unit
said_record = said (λ size. tt)

abbrev pub said_checked : Result ℕ Fault → Checked
said_checked (Ok end) = sound end
said_checked (Err fault) = faulty (number_of fault.refusal) fault.byte

-- of a call that finds something at a year: the year, or the end, or the fault
abbrev pub said_call : {T : Type 0} → (T → NextYear) → Result (Option T) Fault → Next
said_call year (Ok (Some x)) = next_year (year x).end (year x).least
said_call year (Ok None) = book_end
said_call year (Err fault) = stop (number_of fault.refusal) fault.byte

abbrev pub said_next : Result (Option NextYear) Fault → Next
said_next = said_call (λ year. year)

abbrev pub said_sought : Result Part NoYear → Sought
said_sought (Ok part) = found part.start part.end
said_sought (Err (Unsound fault)) = unsound (number_of fault.refusal) fault.byte
said_sought (Err (Refused refusal)) = no_year (number_of refusal)
