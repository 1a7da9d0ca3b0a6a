-- The ways in which document 01 rounds. Assumes nothing.
use Rattle.std.specs.Prelude.{ℕ, suc, ◌+◌, ◌*◌, ◌-◌, ◌/◌, ◌%◌, ℤ, pos, negsuc, neg_ℤ}

-- n / d, half or more rounded up
unfoldable pub half_up : ℕ → ℕ → ℕ
half_up n d = (2 * n + d) / (2 * d)

-- the same on the size of a signed number
unfoldable pub half_up_on_size : ℤ → ℕ → ℤ
half_up_on_size (pos n) d = pos (half_up n d)
half_up_on_size (negsuc n) d = neg_ℤ (pos (half_up (suc n) d))

-- z / d, rounded down: below 0 too, and never towards 0 (negsuc n is -(n + 1))
unfoldable pub floor_div : ℤ → ℕ → ℤ
floor_div (pos n) d = pos (n / d)
floor_div (negsuc n) d = negsuc (n / d)

-- what that leaves, z taken by d: from 0 to below d, so never d itself
unfoldable pub floor_mod : ℤ → ℕ → ℕ
floor_mod (pos n) d = n % d
floor_mod (negsuc n) d = d - suc (n % d)
