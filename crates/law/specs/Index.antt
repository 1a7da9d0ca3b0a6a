-- N and a day counted from the least allowed on, as the term book counts them. Assumes nothing.
use Rattle.std.specs.Prelude.{ℕ, ℤ, pos, nat_abs, ◌+ℤ◌}

-- N + 2,000
abbrev pub year_index : ℤ → ℕ
year_index N = nat_abs (N +ℤ pos 2_000)

-- d + 4
abbrev pub day_index : ℤ → ℕ
day_index d = nat_abs (d +ℤ pos 4)
