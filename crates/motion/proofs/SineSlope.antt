-- The sine rises with its arc, and as its table's steps let it: by less the further the arc begins. Assumes nothing.
use mathlib.Core.Path.{◌≡◌, ◌∙◌}
use mathlib.Core.Bool.{Bool}
use Prim.Native.Nat.{ℕ, ◌+◌, ◌*◌, ◌-◌, ◌≤◌, ◌<◌}
use native.Mathlib.Omega.{arith}
use lib.Dec.{T, leb, leb→le}
use Rattle.reasoning.proofs.Every.{every, seat}
use Rattle.law.specs.Sines.{sines}
use Rattle.law.specs.Entry.{last_sine, sine_entry}
use Rattle.law.specs.Document.{quarter, ten_minutes, sine}
use Rattle.law.proofs.Rules.{sine_step, sine_ends}
use Rattle.motion.proofs.Slope.{Gains, Steps, Climbs, between_entry, between_climbs}

-- the step k entries on from entry p is at most d
abbrev step_test : ℕ → ℕ → ℕ → Bool
step_test p d k = leb (sine_entry (p + k + 1)) (sine_entry (p + k) + d)

steps : (p n d : ℕ) → p + n ≤ last_sine → T (every (step_test p d) n) → Steps sine_entry p (p + n) d
steps p n d l t = record { at = λ (k : ℕ) (h : p ≤ k) (g : k < p + n). step k h g }
  where
    step : (k : ℕ) → p ≤ k → k < p + n → Gains 0 d (sine_entry k) (sine_entry (k + 1))
    step k h g =
        let e : p + (k - p) ≡ k = omega arith in
        let w : sine_entry (k + 1) ≤ sine_entry k + d =
        leb→le (sine_entry (k + 1)) (sine_entry k + d) (rw e at (seat (step_test p d) n t (k - p) (omega arith))) in
        omega (arith, sine_step k (omega arith))

pub all_steps : Steps sine_entry 0 last_sine 29_089
all_steps = record { at = λ (k : ℕ) (h : 0 ≤ k) (g : k < last_sine). omega (arith, sine_step k g) }

pub steps_from_90 : Steps sine_entry 90 last_sine 28_087
unfolding sine_entry sines
steps_from_90 = steps 90 450 28_087 (omega arith) tt

pub steps_from_443 : Steps sine_entry 443 last_sine 8_059
unfolding sine_entry sines
steps_from_443 = steps 443 97 8_059 (omega arith) tt

pub sine_climbs : {p d : ℕ} → Steps sine_entry p last_sine d → (x y : ℕ) → p * ten_minutes ≤ x → x ≤ y → y ≤ quarter
    → Climbs d (y - x) (sine x) (sine y)
unfolding sine
sine_climbs s x y h l g = between_climbs s x y h l g

pub sine-0° : sine 0 ≡ 0
unfolding sine
sine-0° = between_entry sine_entry 0 ∙ sine_ends.0
