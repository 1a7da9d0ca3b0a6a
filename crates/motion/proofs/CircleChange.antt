-- How much the equation changes over n units of anomaly, up to 70′, anywhere in the circle: on one side of the quarter, through it,
-- through the half circle, and through the whole. Assumes nothing.
use mathlib.Core.Path.{◌≡◌, ap}
use Prim.Native.Nat.{ℕ, ◌+◌, ◌*◌, ◌-◌, ◌%◌, ◌≤◌, ◌<◌}
use native.Mathlib.Decide.{dec_lt, dec_le}
use native.Mathlib.Nat.{mod-eq_of_lt, mul-le-mul_right}
use native.Mathlib.Omega.{arith}
use Rattle.law.specs.Document.{circle, half, quarter, epicycles, ten_minutes, angle}
use Rattle.motion.specs.Working.{far_of, added, taken}
use Rattle.motion.proofs.QuarterChange.{Change, near_climbs, near_falls, far_rises, far_climbs, far_climbs_own}
use Rattle.motion.proofs.AngleSlope.{equation_of}
use Rattle.motion.proofs.Equation.{by_near, by_far, equation-0°, equation-180°, added_low, added_high, taken_low, taken_high}

-- fall bounds how fast the equation falls on the far side
abbrev Far : ℕ → ℕ → Type 0
Far e fall = (x y : ℕ) → x ≤ y → y ≤ quarter → y ≤ x + 7 * ten_minutes → Change fall 3_900_000 (y - x) (angle (far_of e x)) (angle (far_of e y))

-- from the anomaly a to b, n units on: what the equation, what is added less what is taken, gains and loses
pub record RoundTheCircle (e fall n a b : ℕ) : Type 0 where
  pub up : Change 36_600 7_800_000 n (added e a + taken e b) (added e b + taken e a)
  pub down : Change fall 10_400_000 n (added e b + taken e a) (added e a + taken e b)

module _ (e : ℕ) (o : e ≤ epicycles) (fall : ℕ) (c : 655 ≤ fall) (far : Far e fall) where
  -- from u to v, on one side of the quarter
  module _ (u v : ℕ) (l : u ≤ v) where
    near_up : v ≤ quarter → Change 36_600 3_900_000 (v - u) (equation_of e u) (equation_of e v)
    near_up q = omega (arith, near_climbs e o u v l q, by_near e u (omega arith), by_near e v q)

    near_down : v ≤ quarter → Change fall 1_300_000 (v - u) (equation_of e v) (equation_of e u)
    near_down q = omega (arith, near_falls e o u v l q, by_near e u (omega arith), by_near e v q, mul-le-mul_right (v - u) c)

    far_up : quarter ≤ u → v ≤ half → equation_of e v ≤ equation_of e u
    far_up p q = omega (arith, far_rises e o (half - v) (half - u) (omega arith) (omega arith), by_far e u p, by_far e v (omega arith))

    far_down : quarter ≤ u → v ≤ half → v ≤ u + 7 * ten_minutes → Change fall 3_900_000 (v - u) (equation_of e v) (equation_of e u)
    far_down p q w =
        let i : half - u - (half - v) ≡ v - u = omega arith in
        omega (arith, rw i at (far (half - v) (half - u) (omega arith) (omega arith) (omega arith)), by_far e u p, by_far e v (omega arith))

  -- within the half circle
  module _ (u v : ℕ) (l : u ≤ v) (q : v ≤ half) where
    half_circle_up : Change 36_600 3_900_000 (v - u) (equation_of e u) (equation_of e v)
    half_circle_up = go (dec_le v quarter) (dec_le quarter u)
      where
        go : Dec (v ≤ quarter) → Dec (quarter ≤ u) → Change 36_600 3_900_000 (v - u) (equation_of e u) (equation_of e v)
        go (yes a) _ = near_up u v l a
        go (no a) (yes b) = omega (arith, far_up u v l b q)
        go (no a) (no b) = omega (arith, near_up u quarter (omega arith) (omega arith), far_up quarter v (omega arith) (omega arith) q)

    half_circle_down : v ≤ u + 7 * ten_minutes → Change fall 5_200_000 (v - u) (equation_of e v) (equation_of e u)
    half_circle_down w = go (dec_le v quarter) (dec_le quarter u)
      where
        go : Dec (v ≤ quarter) → Dec (quarter ≤ u) → Change fall 5_200_000 (v - u) (equation_of e v) (equation_of e u)
        go (yes a) _ = omega (arith, near_down u v l a)
        go (no a) (yes b) = omega (arith, far_down u v l b q w)
        go (no a) (no b) =
            let i : v - u ≡ quarter - u + (v - quarter) = omega arith in
            rw i (omega (arith, near_down u quarter (omega arith) (omega arith), far_down quarter v (omega arith) (omega arith) q (omega arith)))

  -- the four places of a and a + n in the circle
  module _ (a n : ℕ) (h : a < circle) (w : n ≤ 7 * ten_minutes) where
    both_add : a + n < half → RoundTheCircle e fall n a (a + n)
    both_add p =
        let f = added_low e a (omega arith) in
        let g = added_low e (a + n) p in
        let i = taken_low e a (omega arith) in
        let j = taken_low e (a + n) p in
        let s : a + n - a ≡ n = omega arith in
        record {
          up = omega (arith, half_circle_up a (a + n) (omega arith) (omega arith));
          down = omega (arith, rw s at (half_circle_down a (a + n) (omega arith) (omega arith) (omega arith)));
        }

    past_half : a < half → half ≤ a + n → RoundTheCircle e fall n a (a + n)
    past_half p q =
        let f = added_low e a p in
        let g = added_high e (a + n) q in
        let i = taken_low e a p in
        let j = taken_high e (a + n) q in
        let z = equation-180° e in
        let s : half - a + (half - (circle - (a + n))) ≡ n = omega arith in
        record {
          up = omega arith;
          down =
              omega (
                arith,
                half_circle_down a half (omega arith) (omega arith) (omega arith),
                half_circle_down (circle - (a + n)) half (omega arith) (omega arith) (omega arith),
                ap (λ (x : ℕ). fall * x) s,
              );
        }

    both_take : half ≤ a → a + n < circle → RoundTheCircle e fall n a (a + n)
    both_take p q =
        let f = added_high e a p in
        let g = added_high e (a + n) (omega arith) in
        let i = taken_high e a p in
        let j = taken_high e (a + n) (omega arith) in
        let s : circle - a - (circle - (a + n)) ≡ n = omega arith in
        record {
          up = omega (arith, half_circle_up (circle - (a + n)) (circle - a) (omega arith) (omega arith));
          down = omega (arith, rw s at (half_circle_down (circle - (a + n)) (circle - a) (omega arith) (omega arith) (omega arith)));
        }

    past_circle : circle ≤ a + n → RoundTheCircle e fall n a (a + n - circle)
    past_circle q =
        let f = added_high e a (omega arith) in
        let g = added_low e (a + n - circle) (omega arith) in
        let i = taken_high e a (omega arith) in
        let j = taken_low e (a + n - circle) (omega arith) in
        let z = equation-0° e o in
        record {
          up =
              omega (
                arith,
                half_circle_up 0 (a + n - circle) (omega arith) (omega arith),
                half_circle_up 0 (circle - a) (omega arith) (omega arith),
              );
          down = omega arith;
        }

    turns : RoundTheCircle e fall n a ((a + n) % circle)
    turns = go (dec_lt (a + n) half) (dec_lt a half) (dec_lt (a + n) circle)
      where
        go : Dec (a + n < half) → Dec (a < half) → Dec (a + n < circle) → RoundTheCircle e fall n a ((a + n) % circle)
        go (yes p) _ _ = rw (mod-eq_of_lt {n = a + n} {m = circle} (omega arith)) (both_add p)
        go (no p) (yes q) _ = rw (mod-eq_of_lt {n = a + n} {m = circle} (omega arith)) (past_half q (omega arith))
        go (no p) (no q) (yes r) = rw (mod-eq_of_lt {n = a + n} {m = circle} r) (both_take (omega arith) r)
        go (no p) (no q) (no r) =
            let i : (a + n) % circle ≡ a + n - circle = omega arith in
            rw i (past_circle (omega arith))

-- at any difference of the epicycles up to document 01's, and at document 01's own
any_far : (e : ℕ) → e ≤ epicycles → Far e 36_600
any_far e o x y l q _ = far_climbs e o x y l q

pub turns_any : (e : ℕ) → e ≤ epicycles → (a n : ℕ) → a < circle → n ≤ 7 * ten_minutes → RoundTheCircle e 36_600 n a ((a + n) % circle)
turns_any e o = turns e o 36_600 (omega arith) (any_far e o)

pub turns_own : (a n : ℕ) → a < circle → n ≤ 7 * ten_minutes → RoundTheCircle epicycles 35_300 n a ((a + n) % circle)
turns_own = turns epicycles (omega arith) 35_300 (omega arith) far_climbs_own
