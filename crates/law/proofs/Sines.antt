-- A sine between two entries: what the code that works it out asks, and its bound. Assumes nothing.
use mathlib.Core.Path.{◌≡◌, refl}
use Prim.Native.Nat.{ℕ, ◌+◌, ◌*◌, ◌-◌, ◌/◌, ◌%◌, ◌^◌, ◌≤◌, ◌<◌}
use native.Mathlib.Decide.{dec_lt}
use native.Mathlib.Nat.{mul-zero, mul-le-mul, mul-le-mul_left}
use native.Mathlib.Omega.{arith}
use Rattle.law.specs.Entry.{last_sine, sine_entry}
use Rattle.law.proofs.Rules.{sine_step, sine_top, sine_past}
use Rattle.law.specs.Document.{ten_minutes, quarter, radius, between, sine}

-- at the last entry nothing is over
pub sine_last : (x : ℕ) → x ≤ quarter → last_sine ≤ x / ten_minutes → sine x ≡ sine_entry (x / ten_minutes)
unfolding sine between
sine_last x h e =
    let m : x % ten_minutes ≡ 0 = omega arith in
    let z : (sine_entry (x / ten_minutes + 1) - sine_entry (x / ten_minutes)) * (x % ten_minutes) ≡ 0 =
    rw m (mul-zero (sine_entry (x / ten_minutes + 1) - sine_entry (x / ten_minutes))) in
    omega arith

-- no step is longer than the first; at the last entry it is 0
step_most : (k : ℕ) → sine_entry (k + 1) - sine_entry k ≤ 29_089
step_most k = go (dec_lt k last_sine)
  where
    go : Dec (k < last_sine) → sine_entry (k + 1) - sine_entry k ≤ 29_089
    go (yes l) = omega (arith, sine_step k l)
    go (no l) = omega (arith, sine_past (k + 1) (omega arith))

-- from the entry below and the step to the next
pub record Between (x below step : ℕ) : Type 0 where
  pub fits : step * (x % ten_minutes) < 2 ^ 60
  pub part : step * (x % ten_minutes) / ten_minutes ≤ step
  pub is : below + step * (x % ten_minutes) / ten_minutes ≡ sine x

pub sine_between : (x below step : ℕ) → below ≡ sine_entry (x / ten_minutes)
    → step ≡ sine_entry (x / ten_minutes + 1) - sine_entry (x / ten_minutes) → Between x below step
unfolding sine between
sine_between x below step b s =
    let most = step_most (x / ten_minutes) in
    let w : step * (x % ten_minutes) ≤ 29_089 * ten_minutes =
    mul-le-mul {n₁ = step} {m₁ = x % ten_minutes} {n₂ = 29_089} {m₂ = ten_minutes} (omega arith) (omega arith) in
    let v : step * (x % ten_minutes) ≤ step * ten_minutes =
    mul-le-mul_left {m = x % ten_minutes} {n = ten_minutes} step (omega arith) in
    record { fits = omega arith; part = omega arith; is = rw (b, s) refl }

pub sine_le : (x : ℕ) → x ≤ quarter → sine x ≤ radius
sine_le x h = go (dec_lt (x / ten_minutes) last_sine)
  where
    k : ℕ
    k = x / ten_minutes

    go : Dec (k < last_sine) → sine x ≤ radius
    go (yes l) =
        let b = sine_between x (sine_entry k) (sine_entry (k + 1) - sine_entry k) refl refl in
        omega (arith, sine_step k l, sine_top (k + 1) (omega arith))
    go (no l) = omega (arith, sine_last x h (omega arith), sine_top k (omega arith))
