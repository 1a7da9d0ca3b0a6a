-- Height and base are at most the difference of the epicycles. Assumes nothing.
use Prim.Native.Nat.{ℕ, ◌-◌, ◌≤◌}
use native.Mathlib.Nat.{mul-le-mul}
use native.Mathlib.Omega.{arith}
use Rattle.law.specs.Round.{half_up}
use Rattle.law.specs.Document.{quarter, radius, epicycles, sine, cosine}
use Rattle.law.proofs.Sines.{sine_le}
use Rattle.motion.specs.Working.{height_of, base_of}

-- for a difference of the epicycles up to the old one
module _ (e : ℕ) (o : e ≤ epicycles) (x : ℕ) (h : x ≤ quarter) where
  pub height_le : height_of e x ≤ epicycles
  unfolding height_of half_up
  height_le = omega (arith, mul-le-mul {n₁ = e} {m₁ = sine x} {n₂ = epicycles} {m₂ = radius} o (sine_le x h))

  pub base_le : base_of e x ≤ epicycles
  unfolding base_of cosine half_up
  base_le = omega (arith, mul-le-mul {n₁ = e} {m₁ = sine (quarter - x)} {n₂ = epicycles} {m₂ = radius} o (sine_le (quarter - x) (omega arith)))
