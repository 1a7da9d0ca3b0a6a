-- Each rule over signed numbers is its working form over numbers from 0 up, once: the year y = N + 2,000, the day j = d + 4,
-- the place lifted. Assumes nothing.
use mathlib.Core.Path.{◌≡◌, refl, ap, sym, ◌∙◌}
use mathlib.Core.Bool.{Bool, true, false, cond}
use Prim.Native.Nat.{ℕ, ◌+◌, ◌*◌, ◌-◌, ◌/◌, ◌%◌, ◌≤◌, ◌<◌}
use native.Mathlib.Decide.{dec_lt}
use native.Mathlib.Omega.{arith}
use borrow.Author.Tests.{lt-ltb, le-ltb, le-leb, lt-leb}
use lib.Dec.{leb}
use lib.IntN.{ℤ, pos, ◌+ℤ◌, ◌*ℤ◌}
use Rattle.reasoning.proofs.Whole.{Is, is_pos, is_neg, is_add, is_minus, is_times}
use Rattle.law.specs.Entry.{last_tangent}
use Rattle.law.specs.Round.{half_up}
use Rattle.law.specs.Document.{circle, half, quarter, minute, day, year_length, daily_motion, perigee_yearly, perigee_daily, perigee_epoch, day_epoch, mansion_epoch, radius, solstice, day_name, fraction, mansion, root, year_values, mean_place, perigee, in_circle, anomaly, mirrored, folded, sine, cosine, height, base, long_side, tangent, angle, equation, run_on_place}
use Rattle.law.proofs.Floor.{div_is, mod_is}
use Rattle.law.proofs.Angles.{angle_le}
use Rattle.motion.specs.Working.{lift_days, solstice_of, root_from, root_of, year_of, height_of, base_of, near_of, far_of, tangent_of, angle_answer, size_answer, added, taken, anomaly_of, lift, place_of}

-- ---- the equation of centre, at the arc u from the perigee

pub mirrored_low : (a : ℕ) → a ≤ half → mirrored a ≡ a
unfolding mirrored
mirrored_low a h = rw (le-leb _ _ h) refl

pub mirrored_high : (a : ℕ) → half < a → mirrored a ≡ circle - a
unfolding mirrored
mirrored_high a h = rw (lt-leb _ _ h) refl

-- an arc from the perigee, up to a half circle, is its own mirrored arc
pub folded_near : (u : ℕ) → u ≤ quarter → folded u ≡ u
unfolding folded
folded_near u h = let low : u ≤ half = omega arith in rw (mirrored_low u low, le-leb _ _ h) refl

pub folded_far : (u : ℕ) → quarter < u → u ≤ half → folded u ≡ half - u
unfolding folded
folded_far u h low = rw (mirrored_low u low, lt-leb _ _ h) refl

pub tangent_is : (e a : ℕ) → tangent e a ≡ tangent_of e (mirrored a)
unfolding tangent long_side base height folded tangent_of near_of far_of height_of base_of
tangent_is e a = go (mirrored a) (leb (mirrored a) quarter)
  where
    go : (u : ℕ) (near : Bool) → half_up (2 * half_up (e * sine (cond near u (half - u))) radius * radius)
        (cond near (radius - half_up (e * cosine (cond near u (half - u))) radius) (radius + half_up (e * cosine (cond near u (half - u))) radius))
        ≡ cond near (half_up (2 * half_up (e * sine u) radius * radius) (radius - half_up (e * cosine u) radius))
        (half_up (2 * half_up (e * sine (half - u)) radius * radius) (radius + half_up (e * cosine (half - u)) radius))
    go u true = refl
    go u false = refl

-- from a height h and a base b that are those of the arc
pub tangent_near : (e u h b : ℕ) → u ≤ quarter → h ≡ height_of e u → b ≡ base_of e u → half_up (2 * h * radius) (radius - b) ≡ tangent_of e u
unfolding tangent_of near_of
tangent_near e u h b l p q = rw (le-leb _ _ l, p, q) refl

pub tangent_far : (e u h b : ℕ) → quarter < u → h ≡ height_of e (half - u) → b ≡ base_of e (half - u)
    → half_up (2 * h * radius) (radius + b) ≡ tangent_of e u
unfolding tangent_of far_of
tangent_far e u h b l p q = rw (lt-leb _ _ l, p, q) refl

-- the size at an anomaly in the circle is the angle of the tangent at its arc
pub size_from : (e a t : ℕ) → t ≡ tangent_of e (mirrored a) → angle_answer t ≡ size_answer e a
unfolding size_answer angle_answer
size_from e a t h = ap angle_answer (h ∙ sym (tangent_is e a))

-- the signed equation is what is added less what is taken away, and neither is above 130′
pub equation_is : (e a : ℕ) → Is (equation e a) (added e a) (taken e a)
unfolding equation added taken
equation_is e a = go (dec_lt a half)
  where
    go : Dec (a < half) → Is (equation e a) (added e a) (taken e a)
    go (yes l) = rw (lt-ltb _ _ l) (is_pos (angle (tangent e a)))
    go (no l) = let g : half ≤ a = omega arith in rw (le-ltb _ _ g) (is_neg (is_pos (angle (tangent e a))))

pub sides_le : (e a : ℕ) → (added e a ≤ last_tangent * minute) × (taken e a ≤ last_tangent * minute)
unfolding added taken
sides_le e a = go (dec_lt a half)
  where
    go : Dec (a < half) → (added e a ≤ last_tangent * minute) × (taken e a ≤ last_tangent * minute)
    go (yes l) = rw (lt-ltb _ _ l) (angle_le (tangent e a), omega arith)
    go (no l) = let g : half ≤ a = omega arith in rw (le-ltb _ _ g) (omega arith, angle_le (tangent e a))

-- ---- the year

module _ {N : ℤ} {y : ℕ} (h : Is N y 2_000) where
  solstice_is : Is (solstice N) (solstice_of y) (lift_days * day)
  unfolding solstice solstice_of
  solstice_is = omega (arith, is_add (is_pos day_epoch) (is_times year_length h))

  pub fraction_is : fraction N ≡ solstice_of y % day
  unfolding fraction
  fraction_is = mod_is lift_days day (omega arith) solstice_is

  pub day_name_is : day_name N ≡ solstice_of y / day % 60
  unfolding day_name
  day_name_is = mod_is (lift_days / 60) 60 (omega arith) (div_is lift_days day (omega arith) solstice_is)

  pub mansion_is : mansion N ≡ (solstice_of y / day + 27) % 28
  unfolding mansion solstice_of
  mansion_is =
      let p : Is (pos mansion_epoch +ℤ N *ℤ pos year_length) (solstice_of y) ((lift_days + 2) * day) =
      omega (arith, is_add (is_pos mansion_epoch) (is_times year_length h)) in
      mod_is (lift_days / 28 + 1) 28 (omega arith) (omega (arith, is_add (div_is (lift_days + 2) day (omega arith) p) (is_pos 1)))

  pub root_is : root N ≡ root_of y
  unfolding root root_of root_from
  root_is = rw fraction_is refl

  pub year_values_is : year_values N ≡ year_of y
  unfolding year_of
  year_values_is = rw (day_name_is, fraction_is, mansion_is, root_is) refl

  -- ---- the day
  module _ {d : ℤ} {j : ℕ} (g : Is d j 4) where
    mean_is : Is (mean_place N d) (root_of y + j * daily_motion) (4 * daily_motion)
    unfolding mean_place
    mean_is = omega (arith, is_add (is_pos (root N)) (is_times daily_motion g), root_is)

    perigee_is : Is (perigee N d) (perigee_epoch + y * perigee_yearly + j * perigee_daily) (2_000 * perigee_yearly + 4 * perigee_daily)
    unfolding perigee
    perigee_is = omega (arith, is_add (is_add (is_pos perigee_epoch) (is_times perigee_yearly h)) (is_times perigee_daily g))

    pub anomaly_is : y ≤ 4_000 → anomaly N d ≡ anomaly_of y j
    unfolding anomaly in_circle anomaly_of
    anomaly_is l = mod_is 1 circle (omega arith) (omega (arith, is_minus mean_is perigee_is))

    pub run_on_is : (e : ℕ) → y ≤ 4_000 → Is (run_on_place e N d) (place_of e y j) lift
    unfolding run_on_place place_of
    run_on_is e l = rw (anomaly_is l) (omega (arith, is_add mean_is (equation_is e (anomaly_of y j)), sides_le e (anomaly_of y j)))

    -- the public mean place
    pub mean_in_circle : in_circle (mean_place N d) ≡ (root_of y + j * daily_motion + (circle - 4 * daily_motion)) % circle
    unfolding in_circle
    mean_in_circle = mod_is 1 circle (omega arith) (omega (arith, mean_is))
