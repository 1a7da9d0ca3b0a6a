-- A year and a day given together: what the private functions answer for both, the refusals in their order. Assumes nothing.
use Rattle.std.specs.Prelude.{ℕ, ℤ, pos, nat_abs, ◌+ℤ◌}
use Rattle.reasoning.specs.Answer.{Answer, value, refusing}
use Rattle.law.specs.Index.{year_index, day_index}
use Rattle.law.specs.Document.{anomaly, run_on_place, bad_year, bad_day, off_table}
use Rattle.motion.specs.Working.{lift}

-- both counted from the least allowed on
pub record Midnights : Type 0 where
  pub y : ℕ
  pub j : ℕ

abbrev pub midnights_of : ℤ → ℤ → Midnights
midnights_of N d = record { y = year_index N; j = day_index d }

-- both, the refusals in their order
unfoldable pub midnight_answer : ℤ → ℤ → Answer Midnights
midnight_answer N d = refusing (bad_year N) 1 (refusing (bad_day d) 2 (value (midnights_of N d)))

-- the run-on place, lifted so that none is below 0
unfoldable pub lifted_answer : ℕ → ℤ → ℤ → Answer ℕ
lifted_answer e N d =
    refusing (bad_year N) 1
    (refusing (bad_day d) 2 (refusing (off_table e (anomaly N d)) 5 (value (nat_abs (run_on_place e N d +ℤ pos lift)))))
