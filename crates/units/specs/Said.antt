-- What this crate's answers say, in document 01's numbers. Assumes nothing.
use Rattle.std.specs.Prelude.{ℕ, ℤ, Result, Ok, Err}
use Rattle.reasoning.specs.Answer.{Answer, value, refused}
use Rattle.units.specs.declared.refusal.Refusal.{Refusal}
use Rattle.units.specs.declared.refusal.Refusal.TheVariants.{YearOutside, DayOrMinuteOutside, TermAbove, LongitudeBeyond, TangentAbove, TooShort, RecordCutOff, KindUnknown, FieldOutside, OutOfTurn, NotAYear, YearAbsent}

-- the table of refusal numbers
abbrev pub number_of : Refusal → ℕ
number_of YearOutside = 1
number_of DayOrMinuteOutside = 2
number_of TermAbove = 3
number_of LongitudeBeyond = 4
number_of TangentAbove = 5
number_of TooShort = 6
number_of RecordCutOff = 7
number_of KindUnknown = 8
number_of FieldOutside = 9
number_of OutOfTurn = 10
number_of NotAYear = 11
number_of YearAbsent = 12

-- an answer whose value stands for this
abbrev pub said : {T A : Type 0} → (T → A) → Result T Refusal → Answer A
said values (Ok v) = value (values v)
said values (Err r) = refused (number_of r)

abbrev pub said_number : Result ℕ Refusal → Answer ℕ
said_number = said (λ n. n)

abbrev pub said_signed : Result ℤ Refusal → Answer ℤ
said_signed = said (λ z. z)
