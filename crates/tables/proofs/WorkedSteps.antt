-- The steps of small tables, and the first and last seats of the sines with the step from each. The rows are the independent program's
-- (tests/worked_facts.py). Assumes nothing.
use mathlib.Core.List.{[], ◌∷◌}
use mathlib.Core.Path.{◌≡◌, refl}
use Prim.Native.Nat.{ℕ, ◌+◌, ◌<◌}
use native.Mathlib.Omega.{arith}
use Rattle.law.specs.Sines.{sines}
use Rattle.law.specs.Entry.{last_sine, sine_entry}
use Rattle.law.proofs.Rules.{sine_past}
use Rattle.tables.specs.Steps.{steps_of, entry_and_step, two_entries}
use Rattle.tables.specs.declared.EntryAndStep.{EntryAndStep}
use Rattle.tables.specs.declared.TwoEntries.{TwoEntries}

abbrev seat : ℕ → ℕ → EntryAndStep
seat entry step = record { entry = entry; step = step }

abbrev both : EntryAndStep → EntryAndStep → TwoEntries
both first second = record { first = first; second = second }

pub record WorkedSteps : Type 0 where
  -- a table has one step fewer than entries
  pub steps_of_0 : steps_of ([]) ≡ []
  pub steps_of_1 : steps_of (5 ∷ []) ≡ []
  pub steps_of_2 : steps_of (5 ∷ 7 ∷ []) ≡ 2 ∷ []
  pub steps_of_3 : steps_of (0 ∷ 29_089 ∷ 58_177 ∷ []) ≡ 29_089 ∷ 29_088 ∷ []
  -- the first entry is 0; from the last there is no step, and past it nothing
  pub seat_0 : entry_and_step 0 ≡ seat 0 29_089
  pub seat_1 : entry_and_step 1 ≡ seat 29_089 29_088
  pub seat_539 : entry_and_step 539 ≡ seat 9_999_958 42
  pub seat_540 : entry_and_step 540 ≡ seat 10_000_000 0
  pub seat_541 : entry_and_step 541 ≡ seat 0 0
  pub seats_1_2 : two_entries 1 2 ≡ both (seat 29_089 29_088) (seat 58_177 29_088)
  pub seats_540_1 : two_entries 540 1 ≡ both (seat 10_000_000 0) (seat 29_089 29_088)

pub worked_steps : WorkedSteps
unfolding sines sine_entry steps_of
worked_steps =
    record {
      steps_of_0 = refl;
      steps_of_1 = refl;
      steps_of_2 = refl;
      steps_of_3 = refl;
      seat_0 = refl;
      seat_1 = refl;
      seat_539 = refl;
      seat_540 = refl;
      seat_541 = refl;
      seats_1_2 = refl;
      seats_540_1 = refl;
    }

-- past the last entry: for every seat
pub nothing_past : (k : ℕ) → last_sine < k → entry_and_step k ≡ seat 0 0
nothing_past k h = let next : last_sine < k + 1 = omega arith in rw (sine_past k h, sine_past (k + 1) next) refl
