-- An anomaly mirrored, and an arc folded, is the lesser of itself and what the circle, or its half, leaves. Assumes nothing.
use mathlib.Core.Path.{◌≡◌, sym, ◌∙◌}
use Prim.Native.Nat.{ℕ, ◌-◌, ◌≤◌, ◌<◌}
use native.Mathlib.Decide.{dec_le}
use native.Mathlib.Omega.{arith}
use Rattle.std.specs.Prelude.{min}
use Rattle.std.proofs.Math.Nat.{min-eq_left, min-eq_right}
use Rattle.law.specs.Document.{circle, half, quarter, mirrored, folded}
use Rattle.motion.proofs.Bridge.{mirrored_low, mirrored_high, folded_near, folded_far}

pub mirrored_nearer : (a : ℕ) → a < circle → min a (circle - a) ≡ mirrored a
mirrored_nearer a i = go (dec_le a half)
  where
    go : Dec (a ≤ half) → min a (circle - a) ≡ mirrored a
    go (yes low) = min-eq_left (omega arith) ∙ sym (mirrored_low a low)
    go (no high) = min-eq_right (omega arith) ∙ sym (mirrored_high a (omega arith))

pub folded_nearer : (u : ℕ) → u ≤ half → min u (half - u) ≡ folded u
folded_nearer u i = go (dec_le u quarter)
  where
    go : Dec (u ≤ quarter) → min u (half - u) ≡ folded u
    go (yes near) = min-eq_left (omega arith) ∙ sym (folded_near u near)
    go (no far) = min-eq_right (omega arith) ∙ sym (folded_far u (omega arith) i)
