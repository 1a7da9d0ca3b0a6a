-- What a walk holds at the midnight j: the places of the year, the mark within those left, and the place before. Assumes nothing.
use Rattle.std.specs.Prelude.{◌≡◌, ℕ, ◌+◌, ◌-◌, ◌≤◌, ◌<◌}
use Rattle.law.specs.Document.{epicycles}
use Rattle.motion.specs.Working.{place_of}

pub record Underway (y mark left j before count : ℕ) : Type 0 where
  pub some : 0 < left
  pub days : j + left ≤ 375
  pub most : count + left ≤ 8
  pub reached : mark < place_of epicycles y (j + left - 1)
  pub behind : before ≤ mark
  pub known : mark < place_of epicycles y j → (0 < j) × (before ≡ place_of epicycles y (j - 1))
