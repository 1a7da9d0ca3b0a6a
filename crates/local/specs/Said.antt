-- What this crate's answers say, in document 01's numbers. Assumes nothing.
use Rattle.std.specs.Prelude.{Result}
use Rattle.reasoning.specs.Answer.{Answer}
use Rattle.law.specs.Document.{LocalValues}
use Rattle.units.specs.declared.refusal.Refusal.{Refusal}
use Rattle.units.specs.Said.{said}
use Rattle.local.specs.declared.Moment.{Moment}

abbrev pub said_local : Result Moment Refusal → Answer LocalValues
said_local = said (λ m. record { day_there = m.day; minute_there = m.minute })
