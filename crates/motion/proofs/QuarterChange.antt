-- How much the equation changes from an arc x to an arc y of the same quarter circle: the height grows and the base falls as the
-- sine does, the tangent is little more apart than the two, and its angle follows. Assumes nothing.
use mathlib.Core.Path.{◌≡◌, refl}
use Prim.Native.Nat.{ℕ, ◌+◌, ◌*◌, ◌-◌, ◌≤◌, ◌<◌}
use native.Mathlib.Nat.{mul-le-mul_left, mul-le-mul_right}
use native.Mathlib.Decide.{dec_le}
use native.Mathlib.Omega.{arith}
use Rattle.law.specs.Sines.{sines}
use Rattle.law.specs.Entry.{last_sine, sine_entry}
use Rattle.law.specs.Round.{half_up}
use Rattle.law.specs.Document.{quarter, radius, epicycles, ten_minutes, between, sine, cosine, angle}
use Rattle.motion.specs.Working.{height_of, base_of, near_of, far_of}
use Rattle.motion.proofs.HalfUp.{half_up_apart}
use Rattle.motion.proofs.Slope.{Steps, Climbs}
use Rattle.motion.proofs.SineSlope.{all_steps, steps_from_90, steps_from_443, sine_climbs}
use Rattle.motion.proofs.Reach.{most_tangent, base_is, near_le, far_le}
use Rattle.motion.proofs.Legs.{base_le}
use Rattle.motion.proofs.AngleSlope.{steepest, angle_rises, angle_within}

-- ---- the height and the base

-- from a to b over n units: never less, and at most rate more for each 10^12 units, and a slip for the roundings
record LegClimbs (rate n a b : ℕ) : Type 0 where
  rises : a ≤ b
  most : 1_000_000_000_000 * (b - a) ≤ rate * n + 1_017_920_800_000

module _ (e : ℕ) (o : e ≤ epicycles) where
  -- s and t are two sines; a step of d for each 10′ is, of the epicycles, at most this rate
  grown : (rate d n s t : ℕ) → epicycles * d ≤ 360_000 * rate → Climbs d n s t → LegClimbs rate n (half_up (e * s) radius) (half_up (e * t) radius)
  unfolding half_up
  grown rate d n s t c w =
      record {
        rises = omega (arith, mul-le-mul_left e w.rises);
        most = omega (arith, mul-le-mul_left e w.climbs, mul-le-mul_right (d * n) o, mul-le-mul_right n c);
      }

  height_grows : {p d : ℕ} (s : Steps sine_entry p last_sine d) (rate : ℕ) → epicycles * d ≤ 360_000 * rate
      → (x y : ℕ) → p * ten_minutes ≤ x → x ≤ y → y ≤ quarter → LegClimbs rate (y - x) (height_of e x) (height_of e y)
  unfolding height_of
  height_grows {p} {d} s rate c x y h l g = grown rate d (y - x) (sine x) (sine y) c (sine_climbs s x y h l g)

  base_grows : {p d : ℕ} (s : Steps sine_entry p last_sine d) (rate : ℕ) → epicycles * d ≤ 360_000 * rate
      → (x y : ℕ) → x ≤ y → y + p * ten_minutes ≤ quarter → LegClimbs rate (y - x) (base_of e y) (base_of e x)
  base_grows s rate c x y l h =
      let i : quarter - x - (quarter - y) ≡ y - x = omega arith in
      rw (base_is e x, base_is e y) (rw i at (height_grows s rate c (quarter - y) (quarter - x) (omega arith) (omega arith) (omega arith)))

-- ---- the tangent and its angle

-- b is above a by at most so many millionths for each of n units, and a slip for the roundings
pub record Change (rate slip n a b : ℕ) : Type 0 where
  pub most : 1_000_000 * b ≤ 1_000_000 * (a + slip) + rate * n

-- the angle of the height g over the side w is above that of h over l by little, where g is little above h, and l above w
angle_apart : (h g l w rise k most least : ℕ) → 0 < l → 0 < least → least ≤ w → g ≤ h + rise → l ≤ w + k → half_up (2 * h * radius) l ≤ most
    → 2 * least * angle (half_up (2 * g * radius) w)
    ≤ 2 * least * angle (half_up (2 * h * radius) l) + steepest * (4 * radius * rise + (2 * most + 1) * k + 2 * least)
angle_apart h g l w rise k most least p q r f i j =
    omega (
      arith,
      mul-le-mul_left least (angle_within (half_up (2 * h * radius) l) (half_up (2 * g * radius) w)),
      half_up_apart (2 * h * radius) (2 * g * radius) l w (2 * radius * rise) k most least p q r (omega arith) i j,
    )

-- no long side is shorter
abbrev least_side : ℕ
least_side = radius - epicycles

-- near the perigee the long side is the radius less the base
near_apart : (e : ℕ) → e ≤ epicycles → (x y rise k most : ℕ) → x ≤ quarter → y ≤ quarter
    → height_of e y ≤ height_of e x + rise → base_of e y ≤ base_of e x + k → near_of e x ≤ most
    → 2 * least_side * angle (near_of e y) ≤ 2 * least_side * angle (near_of e x) + steepest * (4 * radius * rise + (2 * most + 1) * k + 2 * least_side)
unfolding near_of
near_apart e o x y rise k most p q f i j =
    let a = base_le e o x p in
    let b = base_le e o y q in
    angle_apart (height_of e x) (height_of e y) (radius - base_of e x) (radius - base_of e y) rise k most least_side
    (omega arith) (omega arith) (omega arith) f (omega arith) j

module _ (e : ℕ) (o : e ≤ epicycles) (x y : ℕ) (l : x ≤ y) (q : y ≤ quarter) where
  height_all : LegClimbs 14_481 (y - x) (height_of e x) (height_of e y)
  height_all = height_grows e o all_steps 14_481 (omega arith) x y (omega arith) l q

  base_all : LegClimbs 14_481 (y - x) (base_of e y) (base_of e x)
  base_all = base_grows e o all_steps 14_481 (omega arith) x y l (omega arith)

  pub near_climbs : Change 36_600 3_900_000 (y - x) (angle (near_of e x)) (angle (near_of e y))
  near_climbs =
      let h = height_all in
      let b = base_all in
      omega (
        arith,
        near_apart e o x y (height_of e y - height_of e x) 0 (near_of e x) (omega arith) q (omega arith) (omega arith) (omega arith),
      )

  pub near_falls : Change 655 1_300_000 (y - x) (angle (near_of e y)) (angle (near_of e x))
  near_falls =
      let h = height_all in
      let b = base_all in
      omega (arith, near_apart e o y x 0 (base_of e x - base_of e y) most_tangent q (omega arith) (omega arith) (omega arith) (near_le e o y q))

  -- far from it the long side falls as the height grows, so the tangent rises
  far_tangent_rises : far_of e x ≤ far_of e y
  unfolding far_of
  far_tangent_rises =
      let h = height_all in
      let b = base_all in
      omega (
        arith,
        half_up_apart (2 * height_of e y * radius) (2 * height_of e x * radius) (radius + base_of e y) (radius + base_of e x)
            0 0 (far_of e y) radius
            (omega arith) (omega arith) (omega arith) (omega arith) (omega arith) (omega arith),
      )

  pub far_rises : angle (far_of e x) ≤ angle (far_of e y)
  far_rises = angle_rises (far_of e x) (far_of e y) far_tangent_rises

  -- most: what the tangent at x does not pass; least: what the long side at y is not below
  far_apart : (most least : ℕ) → far_of e x ≤ most → 0 < least → least ≤ radius + base_of e y
      → 2 * least * angle (far_of e y) ≤ 2 * least * angle (far_of e x)
      + steepest * (4 * radius * (height_of e y - height_of e x) + (2 * most + 1) * (base_of e x - base_of e y) + 2 * least)
  unfolding far_of
  far_apart most least f p g =
      let h = height_all in
      let b = base_all in
      angle_apart (height_of e x) (height_of e y) (radius + base_of e x) (radius + base_of e y)
      (height_of e y - height_of e x) (base_of e x - base_of e y) most least (omega arith) p g (omega arith) (omega arith) f

  pub far_climbs : Change 36_600 3_900_000 (y - x) (angle (far_of e x)) (angle (far_of e y))
  far_climbs =
      let h = height_all in
      let b = base_all in
      omega (arith, far_apart most_tangent radius (far_le e o x (omega arith)) (omega arith) (omega arith))

  far_climbs_90 : 90 * ten_minutes ≤ x → Change 35_300 3_900_000 (y - x) (angle (far_of e x)) (angle (far_of e y))
  far_climbs_90 g =
      let h = height_grows e o steps_from_90 13_982 (omega arith) x y g l q in
      let b = base_all in
      omega (arith, far_apart most_tangent radius (far_le e o x (omega arith)) (omega arith) (omega arith))

-- 16°10′ from the apogee, at document 01's own epicycles
base_at_97 : base_of epicycles (97 * ten_minutes) ≡ 172_121
unfolding base_of cosine sine between sine_entry sines half_up
base_at_97 = refl

far_at_97 : far_of epicycles (97 * ten_minutes) ≡ 98_105
unfolding far_of height_of base_of cosine sine between sine_entry sines half_up
far_at_97 = refl

module _ (x y : ℕ) (l : x ≤ y) where
  own : epicycles ≤ epicycles
  own = omega arith

  far_climbs_97 : y ≤ 97 * ten_minutes
      → Change 35_300 3_900_000 (y - x) (angle (far_of epicycles x)) (angle (far_of epicycles y))
  far_climbs_97 q =
      let h = height_all epicycles own x y l (omega arith) in
      let b = base_grows epicycles own steps_from_443 4_012 (omega arith) x y l (omega arith) in
      let c = base_all epicycles own y (97 * ten_minutes) q (omega arith) in
      let f = far_tangent_rises epicycles own x (97 * ten_minutes) (omega arith) (omega arith) in
      omega (
        arith,
        far_apart epicycles own x y l (omega arith) 98_105 10_172_121 (omega (arith, far_at_97)) (omega arith) (omega (arith, base_at_97)),
      )

  -- to an arc within 70′
  pub far_climbs_own : y ≤ quarter → y ≤ x + 7 * ten_minutes
      → Change 35_300 3_900_000 (y - x) (angle (far_of epicycles x)) (angle (far_of epicycles y))
  far_climbs_own q w = go (dec_le (90 * ten_minutes) x)
    where
      go : Dec (90 * ten_minutes ≤ x)
          → Change 35_300 3_900_000 (y - x) (angle (far_of epicycles x)) (angle (far_of epicycles y))
      go (yes p) = far_climbs_90 epicycles own x y l q p
      go (no p) = far_climbs_97 (omega arith)
