-- The height and the base at the folded arc, from a sine and a cosine. Assumes nothing.
use mathlib.Core.Path.{◌≡◌, refl, ap, ◌∙◌}
use Prim.Native.Nat.{ℕ, ◌*◌, ◌-◌}
use Rattle.law.specs.Round.{half_up}
use Rattle.law.specs.Document.{epicycles, radius, quarter, folded, sine}
use Rattle.motion.specs.Working.{height_of, base_of}
use Rattle.motion.proofs.Reach.{base_is}

pub leg_is : (x : ℕ) {s h : ℕ} → h ≡ half_up (epicycles * s) radius → s ≡ sine x → h ≡ height_of epicycles x
unfolding height_of
leg_is x e p = rw (e, p) refl

module _ (u : ℕ) {x h : ℕ} (e : x ≡ folded u) where
  pub height_there : h ≡ height_of epicycles x → h ≡ height_of epicycles (folded u)
  height_there p = p ∙ ap (height_of epicycles) e

  pub base_there : h ≡ height_of epicycles (quarter - x) → h ≡ base_of epicycles (folded u)
  base_there p = rw (base_is epicycles (folded u), p, e) refl
