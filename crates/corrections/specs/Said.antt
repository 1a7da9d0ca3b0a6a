-- What this crate's answers say, in the definition's words. Assumes nothing.
use Rattle.std.specs.Prelude.{Result, Ok, Err}
use Rattle.corrections.specs.Corrections.{Which, the_corrections, the_main, Corrected, found_in, unsound_in, in_neither}
use Rattle.units.specs.Said.{number_of}
use Rattle.corrections.specs.declared.Which.{Which as WhichAnswer}
use Rattle.corrections.specs.declared.Which.TheVariants as which-answer
use Rattle.corrections.specs.declared.CorrectedYear.{CorrectedYear}
use Rattle.corrections.specs.declared.NoYear.{NoYear}
use Rattle.corrections.specs.declared.NoYear.TheVariants.{Unsound, Refused}

abbrev pub said_which : WhichAnswer → Which
said_which which-answer.Corrections = the_corrections
said_which which-answer.Main = the_main

abbrev pub said_corrected : Result CorrectedYear NoYear → Corrected
said_corrected (Ok year) = found_in (said_which year.which) year.start year.end
said_corrected (Err (Unsound which fault)) = unsound_in (said_which which) (number_of fault.refusal) fault.byte
said_corrected (Err (Refused r)) = in_neither (number_of r)
