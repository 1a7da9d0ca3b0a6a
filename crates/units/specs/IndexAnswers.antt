-- A year counted from -2,000 on and a day from -4 on: the count, or the refusal. Assumes nothing.
use Rattle.std.specs.Prelude.{cond, ◌||◌, ℕ, ℤ, nat_abs, ◌-ℤ◌, Result, Ok, Err}
use Rattle.std.specs.Int.Signed.{lt_z}
use Rattle.reasoning.specs.Answer.{Answer, value, refusing}
use Rattle.law.specs.Index.{year_index, day_index}
use Rattle.law.specs.Document.{bad_year, bad_day}
use Rattle.units.specs.declared.refusal.Refusal.{Refusal}
use Rattle.units.specs.declared.refusal.Refusal.TheVariants.{YearOutside, TooShort}

-- a number from the least allowed to the most, counted from the least on; else the refusal
unfoldable pub counted_from : ℤ → ℤ → Refusal → ℤ → Result ℕ Refusal
counted_from least most r z = cond (lt_z z least || lt_z most z) (Err r) (Ok (nat_abs (z -ℤ least)))

unfoldable pub year_index_answer : ℤ → Answer ℕ
year_index_answer N = refusing (bad_year N) 1 (value (year_index N))

unfoldable pub day_index_answer : ℤ → Answer ℕ
day_index_answer d = refusing (bad_day d) 2 (value (day_index d))

-- for a list or a buffer that is too short: 1, then 6
abbrev pub no_room : ℤ → Refusal
no_room N = cond (bad_year N) YearOutside TooShort
