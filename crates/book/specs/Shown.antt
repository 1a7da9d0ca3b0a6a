-- How a book's fault and why there is no year are written. Assumes nothing.
use Rattle.std.specs.Prelude.{List, ◌++◌, ℕ, codes, decimal}
use Rattle.units.specs.declared.refusal.Refusal.{Refusal}
use Rattle.units.specs.Said.{number_of}
use Rattle.book.specs.declared.fault.Fault.{Fault}
use Rattle.book.specs.declared.seek.NoYear.{NoYear}
use Rattle.book.specs.declared.seek.NoYear.TheVariants.{Unsound, Refused}

abbrev pub refusal_text : Refusal → List ℕ
refusal_text refusal = codes "refused " ++ decimal (number_of refusal)

abbrev pub fault_text : Fault → List ℕ
fault_text fault = refusal_text fault.refusal ++ codes " at " ++ decimal fault.byte

abbrev pub no_year_text : NoYear → List ℕ
no_year_text (Unsound fault) = fault_text fault
no_year_text (Refused refusal) = refusal_text refusal
