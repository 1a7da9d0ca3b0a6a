-- Half-up from the quotient and what it leaves: one more where the rest is half the divisor or more. Assumes nothing.
use mathlib.Core.Path.{◌≡◌}
use Prim.Native.Nat.{ℕ, ◌+◌, ◌*◌, ◌-◌, ◌/◌, ◌%◌, ◌≤◌, ◌<◌}
use native.Mathlib.Nat.{le-div_iff_mul-le, div-lt_iff_lt-mul, mod-lt, div-add-mod'}
use native.Mathlib.Omega.{arith}
use Rattle.law.specs.Round.{half_up}

half_up_at : (n d q : ℕ) → 0 < d → q * (2 * d) ≤ 2 * n + d → 2 * n + d < (q + 1) * (2 * d) → q ≡ half_up n d
unfolding half_up
half_up_at n d q p h g =
    let a : q ≤ (2 * n + d) / (2 * d) = (le-div_iff_mul-le {k = 2 * d} (omega arith)).1 h in
    let b : (2 * n + d) / (2 * d) < q + 1 = (div-lt_iff_lt-mul {k = 2 * d} (omega arith)).1 g in
    omega arith

module _ (n d : ℕ) (p : 0 < d) where
  pub half_up_down : n % d < d - n % d → n / d ≡ half_up n d
  half_up_down h =
      let e = div-add-mod' n d in
      half_up_at n d (n / d) p (omega arith) (omega arith)

  pub half_up_more : d - n % d ≤ n % d → n / d + 1 ≡ half_up n d
  half_up_more h =
      let e = div-add-mod' n d in
      let r = mod-lt n p in
      half_up_at n d (n / d + 1) p (omega arith) (omega arith)
