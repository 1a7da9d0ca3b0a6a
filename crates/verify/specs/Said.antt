-- What this crate's answers say, in the definition's words. Assumes nothing.
use Rattle.std.specs.Prelude.{ℕ, Option, Some, None, Result, Ok, Err}
use Rattle.verify.specs.Verify.{Verdict, ours, not_ours, refused_at}
use Rattle.units.specs.Said.{number_of}
use Rattle.book.specs.declared.fault.Fault.{Fault}
use Rattle.verify.specs.declared.Verdict.{Verdict as VerdictAnswer}
use Rattle.verify.specs.declared.Verdict.TheVariants as verdict-answer

-- of one year, the byte of the first record that isn't ours
abbrev pub said_year : Option ℕ → Verdict
said_year None = ours
said_year (Some byte) = not_ours byte

abbrev pub said_verdict : Result VerdictAnswer Fault → Verdict
said_verdict (Ok verdict-answer.Ours) = ours
said_verdict (Ok (verdict-answer.NotOurs byte)) = not_ours byte
said_verdict (Err fault) = refused_at (number_of fault.refusal) fault.byte
