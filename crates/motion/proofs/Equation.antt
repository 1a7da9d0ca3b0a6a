-- The equation by the arc u from the perigee: by its near and far tangent, 0 at both apsides, and what of it an anomaly adds or
-- takes away. Assumes nothing.
use mathlib.Core.Path.{◌≡◌, refl, ap, ◌∙◌}
use Prim.Native.Nat.{ℕ, ◌+◌, ◌-◌, ◌≤◌, ◌<◌}
use native.Mathlib.Decide.{dec_lt}
use native.Mathlib.Nat.{mul-zero, div-eq_of_lt}
use native.Mathlib.Omega.{arith}
use borrow.Author.Tests.{lt-ltb, le-ltb, le-leb, lt-leb}
use Rattle.law.specs.Round.{half_up}
use Rattle.law.specs.Document.{circle, half, quarter, radius, epicycles, mirrored, angle}
use Rattle.motion.specs.Working.{height_of, base_of, near_of, far_of, tangent_of, added, taken}
use Rattle.motion.proofs.Bridge.{mirrored_low, mirrored_high, tangent_is}
use Rattle.motion.proofs.SineSlope.{sine-0°}
use Rattle.motion.proofs.Reach.{base_is}
use Rattle.motion.proofs.Legs.{base_le}
use Rattle.motion.proofs.AngleSlope.{angle_0, most_equation, equation_of, equation_le}

-- ---- by the near and the far tangent

height-0° : (e : ℕ) → height_of e 0 ≡ 0
unfolding height_of half_up
height-0° e = rw (sine-0°, mul-zero) refl

at_quarter : (e : ℕ) → near_of e quarter ≡ far_of e quarter
unfolding near_of far_of
at_quarter e = rw (base_is, height-0°) refl

pub by_near : (e u : ℕ) → u ≤ quarter → equation_of e u ≡ angle (near_of e u)
unfolding equation_of tangent_of
by_near e u h = rw (le-leb _ _ h) refl

pub by_far : (e u : ℕ) → quarter ≤ u → equation_of e u ≡ angle (far_of e (half - u))
unfolding equation_of tangent_of
by_far e u h = go (dec_lt quarter u)
  where
    go : Dec (quarter < u) → equation_of e u ≡ angle (far_of e (half - u))
    go (yes l) = rw (lt-leb _ _ l) refl
    go (no l) =
        let i : u ≡ quarter = omega arith in
        rw i (by_near e quarter (omega arith) ∙ ap angle (at_quarter e))

-- ---- at the apsides

no_height : (side : ℕ) → 0 < side → half_up 0 side ≡ 0
unfolding half_up
no_height side h = div-eq_of_lt (omega arith)

pub equation-0° : (e : ℕ) → e ≤ epicycles → equation_of e 0 ≡ 0
unfolding near_of
equation-0° e o =
    let b = base_le e o 0 (omega arith) in
    by_near e 0 (omega arith) ∙ rw (height-0°, no_height (radius - base_of e 0) (omega arith)) angle_0

pub equation-180° : (e : ℕ) → equation_of e half ≡ 0
unfolding far_of
equation-180° e = by_far e half (omega arith) ∙ rw (height-0°, no_height (radius + base_of e 0) (omega arith)) angle_0

-- ---- at an anomaly

module _ (e a : ℕ) where
  pub added_low : a < half → added e a ≡ equation_of e a
  unfolding added equation_of
  added_low h = rw (lt-ltb _ _ h, tangent_is, mirrored_low a (omega arith)) refl

  pub added_high : half ≤ a → added e a ≡ 0
  unfolding added
  added_high h = rw (le-ltb _ _ h) refl

  pub taken_low : a < half → taken e a ≡ 0
  unfolding taken
  taken_low h = rw (lt-ltb _ _ h) refl

  mirrored_past : half ≤ a → mirrored a ≡ circle - a
  mirrored_past h = go (dec_lt half a)
    where
      go : Dec (half < a) → mirrored a ≡ circle - a
      go (yes l) = mirrored_high a l
      go (no l) = mirrored_low a (omega arith) ∙ omega arith

  pub taken_high : half ≤ a → taken e a ≡ equation_of e (circle - a)
  unfolding taken equation_of
  taken_high h = rw (le-ltb _ _ h, tangent_is, mirrored_past h) refl

  -- either way, never above 7,391″
  pub added_taken_le : e ≤ epicycles → (added e a ≤ most_equation) × (taken e a ≤ most_equation)
  added_taken_le o = go (dec_lt a half)
    where
      go : Dec (a < half) → (added e a ≤ most_equation) × (taken e a ≤ most_equation)
      go (yes l) = omega (arith, added_low l, taken_low l, equation_le e o a (omega arith))
      go (no l) =
          let g : half ≤ a = omega arith in
          omega (arith, added_high g, taken_high g, equation_le e o (circle - a) (omega arith))
