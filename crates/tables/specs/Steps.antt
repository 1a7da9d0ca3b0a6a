-- The steps of a table, from each entry to the next, and what is answered of one seat of the sine table. Assumes nothing.
use Rattle.std.specs.Prelude.{List, [], ◌∷◌, ℕ, ◌+◌, ◌-◌}
use Rattle.law.specs.Entry.{sine_entry}
use Rattle.tables.specs.declared.EntryAndStep.{EntryAndStep}
use Rattle.tables.specs.declared.TwoEntries.{TwoEntries}

unfoldable pub steps_of : List ℕ → List ℕ
steps_of [] = []
steps_of (entry ∷ []) = []
steps_of (entry ∷ next ∷ more) = (next - entry) ∷ steps_of (next ∷ more)

-- the entry at a seat and the step from it to the next; from the last entry on there is none, and the step is 0
abbrev pub entry_and_step : ℕ → EntryAndStep
entry_and_step k = record { entry = sine_entry k; step = sine_entry (k + 1) - sine_entry k }

abbrev pub two_entries : ℕ → ℕ → TwoEntries
two_entries k j = record { first = entry_and_step k; second = entry_and_step j }
