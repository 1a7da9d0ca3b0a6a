-- A number from -lo to hi, known by the test of both ends: it is read as a count from the least on. Assumes nothing.
use mathlib.Core.Path.{◌≡◌, sym, subst}
use mathlib.Core.Bool.{Bool, false, not, ◌||◌}
use Prim.Native.Nat.{ℕ, ◌+◌, ◌≤◌}
use native.Mathlib.Omega.{arith}
use lib.Dec.{T}
use lib.IntN.{ℤ, pos, neg_ℤ, nat_abs, ◌+ℤ◌}
use lib.Signed.{lt_z, lt_z_no}
use Rattle.reasoning.proofs.Answers.{both_no}
use Rattle.reasoning.proofs.Whole.{Is, is_pos, is_from, is_le}

-- z is from -lo to hi, and i is how far it is from the least
pub record Indexed (lo hi : ℕ) (z : ℤ) (i : ℕ) : Type 0 where
  pub test : (lt_z z (neg_ℤ (pos lo)) || lt_z (pos hi) z) ≡ false
  pub is : Is z i lo
  pub most : i ≤ lo + hi

pub false_not : {b : Bool} → b ≡ false → T (not b)
false_not e = subst (λ (b : Bool). T (not b)) (sym e) tt

pub indexed : (lo hi : ℕ) (z : ℤ) (i : ℕ) → (lt_z z (neg_ℤ (pos lo)) || lt_z (pos hi) z) ≡ false → i ≡ nat_abs (z +ℤ pos lo) → Indexed lo hi z i
indexed lo hi z i t e =
    let n = both_no (lt_z z (neg_ℤ (pos lo))) (lt_z (pos hi) z) t in
    let p = is_from lo {z = z} (lt_z_no (false_not n.0)) in
    let q = is_le p (is_pos hi) (lt_z_no (false_not n.1)) in
    record { test = t; is = subst (λ (m : ℕ). Is z m lo) (sym e) p; most = omega arith }
