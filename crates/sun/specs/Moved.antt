-- A place moved by an equation of this size, at the anomaly a: on below the half circle, back from there on. Assumes nothing.
use Rattle.std.specs.Prelude.{cond, ℕ, ◌+◌, ◌-◌, ltb}
use Rattle.law.specs.Document.{half}

unfoldable pub moved_by : ℕ → ℕ → ℕ → ℕ
moved_by mean a size = cond (ltb a half) (mean + size) (mean - size)
