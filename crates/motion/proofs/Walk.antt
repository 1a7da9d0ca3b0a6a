-- The walk to a mark, on the working forms: places rise daily, so one day at most has the mark; the start's place is not past it
-- and the eighth midnight's is, so the walk ends there, within eight. Assumes nothing.
use mathlib.Core.Path.{◌≡◌}
use Prim.Native.Nat.{ℕ, zero, suc, ◌+◌, ◌*◌, ◌-◌, ◌≤◌, ◌<◌}
use native.Mathlib.Decide.{dec_lt}
use native.Mathlib.Omega.{arith}
use borrow.Author.Tests.{lt-ltb, le-ltb}
use Rattle.law.specs.Document.{second, daily_motion, epicycles}
use Rattle.motion.specs.Working.{root_of, anomaly_of, headroom, lift, place_of, mark_of, start_of, count_from_of}
use Rattle.motion.proofs.Root.{root_of_le}
use Rattle.motion.proofs.Slope.{Gains, gains}
use Rattle.motion.proofs.AngleSlope.{most_equation}
use Rattle.motion.proofs.Equation.{added_taken_le}
use Rattle.motion.proofs.DailyMotion.{place_next}

-- ---- any walk

-- a count, at most so many, of midnights from j on, of which the last is past the mark and the one before it is not
pub record FirstPast (place : ℕ → ℕ) (mark limit j count : ℕ) : Type 0 where
  pub least : 2 ≤ count
  pub most : count ≤ limit
  pub before : place (j + count - 2) ≤ mark
  pub after : mark < place (suc (j + count - 2))

pub first_past : (place : ℕ → ℕ) (mark left j : ℕ) → place j ≤ mark → mark < place (j + left)
    → FirstPast place mark (suc left) j (count_from_of place mark (suc left) j)
unfolding count_from_of
first_past place mark zero j h g = let e : j + 0 ≡ j = omega arith in absurd (omega (arith, rw e at g))
first_past place mark (suc left) j h g =
    rw (le-ltb _ _ h)
    (go (dec_lt mark (place (suc j)))
    (λ (l : place (suc j) ≤ mark). first_past place mark left (suc j) l (let e : j + suc left ≡ suc j + left = omega arith in rw e at g)))
  where
    go : Dec (mark < place (suc j)) → (place (suc j) ≤ mark → FirstPast place mark (suc left) (suc j) (count_from_of place mark (suc left) (suc j)))
        → FirstPast place mark (suc (suc left)) j (suc (count_from_of place mark (suc left) (suc j)))
    go (yes l) r =
        let e : j + 2 - 2 ≡ j = omega arith in
        rw (lt-ltb _ _ l) (record { least = omega arith; most = omega arith; before = rw e h; after = rw e l })
    go (no l) r = further (count_from_of place mark (suc left) (suc j)) (r (omega arith))
      where
        further : (c : ℕ) → FirstPast place mark (suc left) (suc j) c → FirstPast place mark (suc (suc left)) j (suc c)
        further c w =
            let e : j + suc c - 2 ≡ suc j + c - 2 = omega (arith, w.least) in
            record { least = omega arith; most = omega arith; before = rw e w.before; after = rw e w.after }

-- ---- the year's places

-- every midnight that a walk to one of the 24 marks can visit is within the year's days
pub start_le : (y k : ℕ) → k < 24 → start_of y (mark_of k) ≤ 351
unfolding start_of
start_le y k h = omega (arith, root_of_le y)

-- how many midnights the walk to the mark m visits, and the day that it finds
abbrev pub count_of : ℕ → ℕ → ℕ → ℕ
count_of e y m = count_from_of (place_of e y) (m + lift) 8 (start_of y m)

abbrev pub day_of : ℕ → ℕ → ℕ → ℕ
day_of e y m = start_of y m + count_of e y m - 2

module _ (e : ℕ) (o : e ≤ epicycles) (y : ℕ) where
  pub places_gain : (i j : ℕ) → i ≤ j → Gains (3_418 * second * (j - i)) (3_679 * second * (j - i)) (place_of e y i) (place_of e y j)
  places_gain i j h =
      gains (place_of e y) 0 j (3_418 * second) (3_679 * second) (λ (x : ℕ) (p : 0 ≤ x) (q : x < j). place_next e o y x) i j (omega arith) h (omega arith)

  -- two days with the mark between their place and the next are one day
  pub one_day : (m i j : ℕ) → place_of e y i ≤ m → m < place_of e y (suc i) → place_of e y j ≤ m → m < place_of e y (suc j) → i ≡ j
  one_day m i j a b c d = go (dec_lt i j) (dec_lt j i)
    where
      go : Dec (i < j) → Dec (j < i) → i ≡ j
      go (yes l) _ = absurd (omega (arith, places_gain (suc i) j l))
      go (no l) (yes k) = absurd (omega (arith, places_gain (suc j) i k))
      go (no l) (no k) = omega arith

  -- the place is at most 7,391″ from the mean place
  pub place_within : (j : ℕ) → (place_of e y j ≤ root_of y + headroom + j * daily_motion + most_equation)
      × (root_of y + headroom + j * daily_motion ≤ place_of e y j + most_equation)
  unfolding place_of
  place_within j = omega (arith, added_taken_le e (anomaly_of y j) o)

  pub start_before : (m : ℕ) → place_of e y (start_of y m) ≤ m + lift
  unfolding start_of
  start_before m = omega (arith, place_within (start_of y m), root_of_le y)

  pub start_after : (m : ℕ) → m + lift < place_of e y (start_of y m + 7)
  unfolding start_of
  start_after m = omega (arith, place_within (start_of y m + 7), root_of_le y)

  pub walk : (m : ℕ) → FirstPast (place_of e y) (m + lift) 8 (start_of y m) (count_of e y m)
  walk m = first_past (place_of e y) (m + lift) 7 (start_of y m) (start_before m) (start_after m)
