-- Fifteen seconds of arc to a clock second, half or more up: 7 more than the size, divided by 15. Assumes nothing.
use mathlib.Core.Path.{◌≡◌, ap}
use Prim.Native.Nat.{ℕ, suc, ◌+◌, ◌/◌}
use native.Mathlib.Omega.{arith}
use lib.IntN.{pos, negsuc, neg_ℤ}
use Rattle.law.specs.Round.{half_up, half_up_on_size}
use Rattle.law.specs.Document.{clock_of_arc}

pub fifteenth : (n : ℕ) → half_up n 15 ≡ (n + 7) / 15
unfolding half_up
fifteenth n = omega arith

pub clock_east : (n : ℕ) → clock_of_arc (pos n) ≡ pos ((n + 7) / 15)
unfolding clock_of_arc half_up_on_size
clock_east n = ap pos (fifteenth n)

pub clock_west : (n : ℕ) → clock_of_arc (negsuc n) ≡ neg_ℤ (pos ((suc n + 7) / 15))
unfolding clock_of_arc half_up_on_size
clock_west n = ap (λ m. neg_ℤ (pos m)) (fifteenth (suc n))
