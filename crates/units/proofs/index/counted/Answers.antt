-- Outside on either side it is the refusal, and within the count. Assumes nothing.
use Rattle.std.proofs.Common.{◌≡◌, Bool, true, false, refl, ap₂, ◌∙◌, Ok, Err, ℕ}
use mathlib.Core.Bool.{cond, ◌||◌}
use lib.IntN.{nat_abs, ◌-ℤ◌}
use mir.Facts.{to_z-of_z}
use Rattle.units.specs.declared.refusal.Refusal.{Refusal}
use Rattle.units.specs.IndexAnswers.{counted_from}
use Rattle.units.proofs.Machine.{lt_read}
use Rattle.units.proofs.index.counted.Goals as goal
use Rattle.units.proofs.index.counted.Goals.{then-z-least-via-then-z-least, then-z-least-via-else-z-least+then-most-z}

low : {r : Refusal} (n : ℕ) (a b : Bool) → a ≡ true → Err r ≡ cond (a || b) (Err r) (Ok n)
low n a b e = rw e refl

high : {r : Refusal} (n : ℕ) (a b : Bool) → b ≡ true → Err r ≡ cond (a || b) (Err r) (Ok n)
high n true b e = refl
high n false b e = rw e refl

within : (r : Refusal) {m n : ℕ} (a b : Bool) → a ≡ false → b ≡ false → m ≡ n → Ok m ≡ cond (a || b) (Err r) (Ok n)
within r a b p q e = rw (p, q, e) refl

pub returns-then-z-least : goal.returns-then-z-least
unfolding counted_from
returns-then-z-least c =
    elim c.then-z-least.branch [
      | then-z-least-via-then-z-least w ↦ low _ _ _ (lt_read c.ranges.z c.ranges.least w.if-z-least.true)
      | then-z-least-via-else-z-least+then-most-z w ↦ high _ _ _ (lt_read c.ranges.most c.ranges.z w.if-most-z.true)
    ]

pub returns : goal.returns
unfolding counted_from
returns c =
    within _ _ _ (lt_read c.ranges.z c.ranges.least c.if-z-least.false) (lt_read c.ranges.most c.ranges.z c.if-most-z.false)
    (c.abs_diff.ensures ∙ ap₂ (λ z least. nat_abs (z -ℤ least)) (to_z-of_z c.ranges.z) (to_z-of_z c.ranges.least))
