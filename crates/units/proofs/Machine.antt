-- Signed machine numbers of any width: what one holds, as it is read; a count that was cast, lowered or negated; and the sign. Assumes
-- nothing.
use mathlib.Core.Path.{◌≡◌, refl, ap₂, sym, ◌∙◌, subst}
use mathlib.Core.Bool.{Bool, true, false}
use Prim.Native.Nat.{ℕ, ◌+◌, ◌^◌, ◌≤◌, ◌<◌}
use native.Mathlib.Omega.{arith}
use lib.IntN.{ℤ, pos, negsuc, neg_ℤ, nat_abs, ◌-ℤ◌}
use lib.Signed.{lt_z}
use mir.Syntax.{Width}
use mir.Val.{SFits, hbits, to_z, of_z}
use mir.Facts.{to_z-of_z, to_z_pos}
use borrow.Author.Tests.{ltb-true}
use Rattle.reasoning.proofs.Whole.{Is, up, down, is_pos, is_neg, is_minus, same}

-- ---- what a machine number holds, read as one number less another

pub sfits_is : (w : Width) {z : ℤ} {a b : ℕ} → Is z a b → a < b + 2 ^ hbits w → b ≤ a + 2 ^ hbits w → SFits w z
unfolding up down
sfits_is w {z = pos n} p h g = record { sfits = omega arith }
sfits_is w {z = negsuc n} p h g = record { sfits = omega arith }

-- z as it stands in a local, or reaches a callee
abbrev pub read : Width → ℤ → ℤ
read w z = to_z w (of_z w z)

-- and a comparison of two that were read
pub lt_read : {w : Width} {x y : ℤ} {b : Bool} → SFits w x → SFits w y → lt_z (read w x) (read w y) ≡ b → lt_z x y ≡ b
lt_read f g e = sym (ap₂ lt_z (to_z-of_z f) (to_z-of_z g)) ∙ e

pub is_read : {w : Width} {z : ℤ} {a b : ℕ} → SFits w z → Is z a b → Is (read w z) a b
is_read {a} {b} f p = subst (λ (t : ℤ). Is t a b) (sym (to_z-of_z f)) p

-- a count that was cast to a signed number
pub is_wide : (w : Width) {n : ℕ} → n < 2 ^ hbits w → Is (to_z w n) n 0
is_wide w {n} h = subst (λ (z : ℤ). Is z n 0) (sym (to_z_pos w h)) (is_pos n)

-- ---- a count j, cast, and lowered by lo

pub record Lowered (w : Width) (lo j : ℕ) : Type 0 where
  pub sum : SFits w (to_z w j -ℤ pos lo)
  pub is : Is (read w (to_z w j -ℤ pos lo)) j lo

pub lowered : (w : Width) (lo j : ℕ) → lo ≤ 2 ^ hbits w → j < 2 ^ hbits w → Lowered w lo j
lowered w lo j h g =
    let t : Is (to_z w j -ℤ pos lo) j lo = omega (arith, is_minus (is_wide w g) (is_pos lo)) in
    let s = sfits_is w t (omega arith) (omega arith) in
    record { sum = s; is = is_read s t }

-- ---- a number of either sign

-- below 0 it is one more than a count, negated
pub record Negative (z : ℤ) : Type 0 where
  pub short : ℕ
  pub is : z ≡ negsuc short

pub negative : {w : Width} {z : ℤ} → SFits w z → lt_z (read w z) (pos 0) ≡ true → Negative z
negative {w} {z = pos n} f e =
    let g : lt_z (pos n) (pos 0) ≡ true = subst (λ (t : ℤ). lt_z t (pos 0) ≡ true) (to_z-of_z f) e in
    absurd (omega (arith, ltb-true n 0 g))
negative {w} {z = negsuc n} f e = record { short = n; is = refl }

-- from 0 up it is a count
pub record Positive (z : ℤ) : Type 0 where
  pub long : ℕ
  pub is : z ≡ pos long

pub positive : {w : Width} {z : ℤ} → SFits w z → lt_z (read w z) (pos 0) ≡ false → Positive z
positive {w} {z = pos n} f e = record { long = n; is = refl }
positive {w} {z = negsuc n} f e =
    let g : true ≡ false = subst (λ (t : ℤ). lt_z t (pos 0) ≡ false) (to_z-of_z f) e in
    absurd (let z : ◌≡◌ {A = ℕ} 0 1 = cc in omega arith)

pub size_le : {w : Width} {z : ℤ} → SFits w z → nat_abs z ≤ 2 ^ hbits w
size_le {w} {z = pos n} f = omega arith
size_le {w} {z = negsuc n} f = omega arith

-- ---- a count, cast, and negated

pub record Negated (w : Width) (n : ℕ) : Type 0 where
  pub fits : SFits w (pos 0 -ℤ to_z w n)
  pub is : read w (pos 0 -ℤ to_z w n) ≡ neg_ℤ (pos n)

pub negated : (w : Width) (n : ℕ) → n < 2 ^ hbits w → Negated w n
negated w n h =
    let t = is_minus (is_pos 0) (is_wide w h) in
    let s = sfits_is w t (omega arith) (omega arith) in
    record { fits = s; is = same (is_read s t) (is_neg (is_pos n)) (omega arith) }
