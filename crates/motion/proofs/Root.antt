-- The root without a product past 64 bits: the daily motion is split at a thousand million. Assumes nothing.
use mathlib.Core.Path.{◌≡◌}
use Prim.Native.Nat.{ℕ, ◌+◌, ◌*◌, ◌-◌, ◌/◌, ◌%◌, ◌≤◌, ◌<◌}
use native.Mathlib.Omega.{arith}
use Rattle.law.specs.Round.{half_up}
use Rattle.law.specs.Document.{day, daily_motion}
use Rattle.motion.specs.Working.{solstice_of, root_from, root_of}

split : (g : ℕ) → half_up (g * daily_motion) day ≡ g * (daily_motion / day) + half_up (g * (daily_motion % day)) day
unfolding half_up
split g = omega arith

pub root_split : (s : ℕ) → root_from s ≡ (day - s % day) * (daily_motion / day) + half_up ((day - s % day) * (daily_motion % day)) day
unfolding root_from
root_split s = split (day - s % day)

-- above 0, and at most a daily motion
pub root_le : (s : ℕ) → (0 < root_from s) × (root_from s ≤ daily_motion)
unfolding root_from half_up
root_le s = omega arith

pub root_of_le : (y : ℕ) → (0 < root_of y) × (root_of y ≤ daily_motion)
unfolding root_of
root_of_le y = root_le (solstice_of y)
