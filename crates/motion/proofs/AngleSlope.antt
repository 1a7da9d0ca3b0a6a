-- The angle of a tangent never falls, and gains at most 1,237,965 units with each unit of the tangent: a minute is spread over
-- 2,908 units or more. So the equation is never above 7,391″. Assumes nothing.
use mathlib.Core.Path.{◌≡◌, refl, ap, ◌∙◌}
use Prim.Native.Nat.{ℕ, suc, ◌+◌, ◌*◌, ◌-◌, ◌/◌, ◌≤◌, ◌<◌}
use native.Mathlib.Nat.{zero-div, le-div_iff_mul-le, div-lt_iff_lt-mul, lt-div-mul-add, div-mul-le_self}
use native.Mathlib.Decide.{dec_lt, dec_le}
use native.Mathlib.Omega.{arith}
use lib.Dec.{lit≤}
use Rattle.law.specs.Tangents.{tangents}
use Rattle.law.specs.Entry.{last_tangent, tangent_entry}
use Rattle.law.specs.Document.{second, minute, half, epicycles, last_minute, angle_past, angle}
use Rattle.law.proofs.Rules.{tangent_step}
use Rattle.law.proofs.Angles.{Last, last_minute_lem, angle_at, angle_end, part_le}
use Rattle.motion.specs.Working.{tangent_of}
use Rattle.motion.proofs.Slope.{Gains, gains}
use Rattle.motion.proofs.Reach.{most_tangent, tangent_le}

-- what a unit of the tangent adds at most: a minute over 2,908 units, rounded up
abbrev pub steepest : ℕ
steepest = minute / 2_908 + 1

-- ---- one unit more of the tangent

-- a dividend with m more
div_gains : (z m c s : ℕ) → 0 < s → m ≤ c * s → Gains 0 c (z / s) ((z + m) / s)
div_gains z m c s h g =
    let l : z / s ≤ (z + m) / s = (le-div_iff_mul-le h).1 (omega (arith, div-mul-le_self z s)) in
    let w : (z + m) / s < z / s + c + 1 = (div-lt_iff_lt-mul h).1 (omega (arith, lt-div-mul-add {a = z} h)) in
    omega arith

-- inside the minute from a to b, and at its end
part_gains : (a b t : ℕ) → a + 2_908 ≤ b → a ≤ t → Gains 0 steepest ((t - a) * minute / (b - a)) ((suc t - a) * minute / (b - a))
part_gains a b t s h =
    let e : (suc t - a) * minute ≡ (t - a) * minute + minute = omega arith in
    rw e (div_gains ((t - a) * minute) minute steepest (b - a) (omega arith) (omega arith))

at_end : (a b t : ℕ) → a + 2_908 ≤ b → a ≤ t → suc t ≡ b → Gains 0 steepest ((t - a) * minute / (b - a)) minute
at_end a b t s h e =
    let w : minute - steepest ≤ (t - a) * minute / (b - a) = (le-div_iff_mul-le {k = b - a} (omega arith)).1 (omega arith) in
    omega (arith, part_le t a b h (omega arith))

angle_entry : (m : ℕ) → m ≤ last_tangent → angle (tangent_entry m) ≡ m * minute
unfolding angle_past
angle_entry m h = go (dec_lt m last_tangent)
  where
    go : Dec (m < last_tangent) → angle (tangent_entry m) ≡ m * minute
    go (yes l) =
        let e : (tangent_entry m - tangent_entry m) * minute ≡ 0 = omega arith in
        angle_at (tangent_entry m) m l (omega arith) (omega (arith, tangent_step m l)) ∙ rw (e, zero-div) (omega arith)
    go (no l) =
        let e : m ≡ last_tangent = omega arith in
        rw e (angle_end (tangent_entry last_tangent) (omega arith))

in_minute : (t m : ℕ) → m < last_tangent → tangent_entry m ≤ t → t < tangent_entry (m + 1) → Gains 0 steepest (angle t) (angle (suc t))
unfolding angle_past
in_minute t m h g l = go (dec_lt (suc t) (tangent_entry (m + 1)))
  where
    go : Dec (suc t < tangent_entry (m + 1)) → Gains 0 steepest (angle t) (angle (suc t))
    go (yes i) =
        omega (
          arith,
          angle_at t m h g l,
          angle_at (suc t) m h (omega arith) i,
          part_gains (tangent_entry m) (tangent_entry (m + 1)) t (tangent_step m h).0 g,
        )
    go (no i) =
        let e : suc t ≡ tangent_entry (m + 1) = omega arith in
        omega (
          arith,
          angle_at t m h g l,
          ap angle e,
          angle_entry (m + 1) (omega arith),
          at_end (tangent_entry m) (tangent_entry (m + 1)) t (tangent_step m h).0 g e,
        )

angle_one : (t : ℕ) → Gains 0 steepest (angle t) (angle (suc t))
angle_one t = go (last_minute_lem t last_tangent) (dec_le (tangent_entry last_tangent) t)
  where
    go : Last t last_tangent (last_minute t last_tangent) → Dec (tangent_entry last_tangent ≤ t) → Gains 0 steepest (angle t) (angle (suc t))
    go r (yes l) = omega (arith, angle_end t l, angle_end (suc t) (omega arith))
    go r (no l) = below (dec_lt (last_minute t last_tangent) last_tangent)
      where
        below : Dec (last_minute t last_tangent < last_tangent) → Gains 0 steepest (angle t) (angle (suc t))
        below (yes h) = in_minute t (last_minute t last_tangent) h r.reached (r.past (last_minute t last_tangent + 1) (omega arith) (omega arith))
        below (no h) =
            let e : last_minute t last_tangent ≡ last_tangent = omega (arith, r.most) in
            absurd (omega (arith, ap tangent_entry e, r.reached))

-- ---- any two tangents

angle_gains : (t s : ℕ) → t ≤ s → Gains 0 (steepest * (s - t)) (angle t) (angle s)
angle_gains t s h =
    omega (arith, gains angle 0 s 0 steepest (λ (x : ℕ) (p : 0 ≤ x) (q : x < s). angle_one x) t s (omega arith) h (omega arith))

pub angle_rises : (t s : ℕ) → t ≤ s → angle t ≤ angle s
angle_rises t s h = omega (arith, angle_gains t s h)

pub angle_within : (t s : ℕ) → angle s ≤ angle t + steepest * (s - t)
angle_within t s = go (dec_le t s)
  where
    go : Dec (t ≤ s) → angle s ≤ angle t + steepest * (s - t)
    go (yes h) = omega (arith, angle_gains t s h)
    go (no h) = omega (arith, angle_rises s t (omega arith))

pub angle_0 : angle 0 ≡ 0
unfolding angle angle_past last_minute tangent_entry tangents
angle_0 = refl

-- ---- the equation's size, at the arc u from the perigee

abbrev pub most_equation : ℕ
most_equation = 7_391 * second

unfoldable pub equation_of : ℕ → ℕ → ℕ
equation_of e u = angle (tangent_of e u)

furthest : angle most_tangent ≤ most_equation
unfolding angle angle_past last_minute tangent_entry tangents
furthest = lit≤ tt

pub equation_le : (e : ℕ) → e ≤ epicycles → (u : ℕ) → u ≤ half → equation_of e u ≤ most_equation
unfolding equation_of
equation_le e o u h = omega (arith, angle_rises (tangent_of e u) most_tangent (tangent_le e o u h), furthest)
