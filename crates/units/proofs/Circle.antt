-- What the library's remainder leaves of an angle is the document's angle in the circle. Assumes nothing.
use mathlib.Core.Path.{◌≡◌, refl, ap, sym, subst, ◌∙◌}
use Prim.Native.Nat.{◌<◌}
use native.Mathlib.Omega.{arith}
use lib.IntN.{ℤ, pos, negsuc, nat_abs}
use mir.Syntax.{w64}
use mir.Val.{SFits}
use mir.Facts.{to_z-of_z}
use Rattle.std.specs.Int.{int_rem_euclid}
use Rattle.law.specs.Round.{floor_mod}
use Rattle.law.specs.Document.{circle, in_circle}
use Rattle.units.proofs.Machine.{read}

left : (z : ℤ) → int_rem_euclid z (pos circle) ≡ pos (in_circle z)
unfolding in_circle floor_mod
left (pos n) = refl
left (negsuc n) = ap pos (omega arith)

below_circle : (z : ℤ) → in_circle z < circle
unfolding in_circle floor_mod
below_circle (pos n) = omega arith
below_circle (negsuc n) = omega arith

-- r is what was left of the machine's reading of z, and is read once more
pub taken : (z r : ℤ) → SFits w64 z → r ≡ int_rem_euclid (read w64 z) (pos circle) → (nat_abs (read w64 r) ≡ in_circle z) × (nat_abs (read w64 r) < circle)
taken z r f e =
    let is : r ≡ pos (in_circle z) = e ∙ (ap (λ x. int_rem_euclid x (pos circle)) (to_z-of_z f) ∙ left z) in
    let g : SFits w64 r = subst (SFits w64) (sym is) (record { sfits = omega (arith, below_circle z) }) in
    let n : nat_abs (read w64 r) ≡ in_circle z = ap nat_abs (to_z-of_z g ∙ is) in
    (n, omega (arith, n, below_circle z))
