-- What the run-on place gains from any midnight to the next: the daily motion, and what the equation changes over a day's gain of
-- the anomaly. Assumes nothing.
use mathlib.Core.Path.{◌≡◌, ap}
use Prim.Native.Nat.{ℕ, suc, ◌+◌, ◌*◌, ◌%◌, ◌≤◌, ◌<◌}
use native.Mathlib.Nat.{mod-add-mod}
use native.Mathlib.Omega.{arith}
use Rattle.law.specs.Document.{second, circle, daily_motion, epicycles}
use Rattle.motion.specs.Working.{gain, anomaly_of, place_of}
use Rattle.motion.proofs.Slope.{Gains}
use Rattle.motion.proofs.Equation.{added_taken_le}
use Rattle.motion.proofs.CircleChange.{RoundTheCircle, turns_any, turns_own}

pub anomaly_lt : (y j : ℕ) → anomaly_of y j < circle
unfolding anomaly_of
anomaly_lt y j = omega arith

anomaly_next : (y j : ℕ) → anomaly_of y (suc j) ≡ (anomaly_of y j + gain) % circle
unfolding anomaly_of
anomaly_next y j = rw mod-add-mod (ap (λ (z : ℕ). z % circle) (omega arith))

-- at least low, where the equation loses no more than the rest of the daily motion
place_gains : (e fall low : ℕ) → e ≤ epicycles → 1_000_000 * (low + 10_400_000) + fall * gain ≤ 1_000_000 * daily_motion
    → (y j : ℕ) → RoundTheCircle e fall gain (anomaly_of y j) ((anomaly_of y j + gain) % circle) → Gains low (3_679 * second) (place_of e y j) (place_of e y (suc j))
unfolding place_of
place_gains e fall low o enough y j w =
    let t : RoundTheCircle e fall gain (anomaly_of y j) (anomaly_of y (suc j)) = rw anomaly_next w in
    omega (arith, added_taken_le e (anomaly_of y j) o, added_taken_le e (anomaly_of y (suc j)) o)

-- at any difference of the epicycles up to document 01's, from 3,418″ to 3,679″; at document 01's own, from 3,422″
pub place_next : (e : ℕ) → e ≤ epicycles → (y j : ℕ) → Gains (3_418 * second) (3_679 * second) (place_of e y j) (place_of e y (suc j))
place_next e o y j =
    place_gains e 36_600 (3_418 * second) o (omega arith) y j (turns_any e o (anomaly_of y j) gain (anomaly_lt y j) (omega arith))

pub place_next_own : (y j : ℕ) → Gains (3_422 * second) (3_679 * second) (place_of epicycles y j) (place_of epicycles y (suc j))
place_next_own y j =
    place_gains epicycles 35_300 (3_422 * second) (omega arith) (omega arith) y j (turns_own (anomaly_of y j) gain (anomaly_lt y j) (omega arith))
