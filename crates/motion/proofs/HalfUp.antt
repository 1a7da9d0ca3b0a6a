-- Half-up division lies within half a unit of the quotient; so two of them lie apart by little more than their quotients do.
-- Assumes nothing.
use mathlib.Core.Path.{◌≡◌, ap}
use Prim.Native.Nat.{ℕ, zero, suc, ◌+◌, ◌*◌, ◌-◌, ◌≤◌, ◌<◌}
use native.Mathlib.Nat.{div-mul-le_self, lt-div-mul-add, mul-le-mul_left, mul-le-mul_right}
use native.Mathlib.Decide.{dec_le}
use native.Mathlib.Omega.{arith}
use Rattle.law.specs.Round.{half_up}

pub half_up_bounds : (n d : ℕ) → 0 < d → (half_up n d * (2 * d) ≤ 2 * n + d) × (2 * n + d < half_up n d * (2 * d) + 2 * d)
unfolding half_up
half_up_bounds n d h = (div-mul-le_self (2 * n + d) (2 * d), lt-div-mul-add {a = 2 * n + d} {b = 2 * d} (omega arith))

-- a product with w, from a product with a smaller least
weaken : (w least δ z : ℕ) → 0 < least → least ≤ w → w * (2 * δ) < z + 2 * w → least * (2 * δ) < z + 2 * least
weaken w least zero z p h g = omega arith
weaken w least (suc δ) z p h g = omega (arith, mul-le-mul_right δ h)

-- in plain numbers: s is n over l, t is m over w
apart : (n m l w g k most s t : ℕ) → t * (2 * w) ≤ 2 * m + w → 2 * n + l < s * (2 * l) + 2 * l → 0 < w
    → m ≤ n + g → l ≤ w + k → s ≤ most → w * (2 * (t - s)) < 2 * g + (2 * most + 1) * k + 2 * w
apart n m l w g k most s t a b p f i j = go (dec_le s t)
  where
    go : Dec (s ≤ t) → w * (2 * (t - s)) < 2 * g + (2 * most + 1) * k + 2 * w
    go (yes h) =
        let e : t ≡ s + (t - s) = omega arith in
        omega (arith, ap (λ (z : ℕ). z * (2 * w)) e, mul-le-mul_left s i, mul-le-mul_right k j)
    go (no h) = let e : t - s ≡ 0 = omega arith in rw e (omega arith)

-- m over w is above n over l by little, where m is at most g above n, and l at most k above w
pub half_up_apart : (n m l w g k most least : ℕ) → 0 < l → 0 < least → least ≤ w → m ≤ n + g → l ≤ w + k → half_up n l ≤ most
    → least * (2 * (half_up m w - half_up n l)) < 2 * g + (2 * most + 1) * k + 2 * least
half_up_apart n m l w g k most least p q r f i j =
    let below : half_up m w * (2 * w) ≤ 2 * m + w = (half_up_bounds m w (omega arith)).0 in
    let above : 2 * n + l < half_up n l * (2 * l) + 2 * l = (half_up_bounds n l p).1 in
    weaken w least (half_up m w - half_up n l) (2 * g + (2 * most + 1) * k) q r
    (apart n m l w g k most (half_up n l) (half_up m w) below above (omega arith) f i j)
