-- How one of the two books, and why there is no year, are written. Assumes nothing.
use Rattle.std.specs.Prelude.{List, ◌++◌, ℕ, codes}
use Rattle.book.specs.Shown.{refusal_text, fault_text}
use Rattle.corrections.specs.declared.Which.{Which}
use Rattle.corrections.specs.declared.Which.TheVariants.{Corrections, Main}
use Rattle.corrections.specs.declared.NoYear.{NoYear}
use Rattle.corrections.specs.declared.NoYear.TheVariants.{Unsound, Refused}

abbrev pub which_text : Which → List ℕ
which_text Corrections = codes "corrections"
which_text Main = codes "main"

abbrev pub no_year_text : NoYear → List ℕ
no_year_text (Unsound which fault) = which_text which ++ codes " " ++ fault_text fault
no_year_text (Refused refusal) = refusal_text refusal
