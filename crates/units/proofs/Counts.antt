-- A year or a day and its count from the least allowed: there, and back again. Assumes nothing.
use mathlib.Core.Path.{◌≡◌, refl}
use mathlib.Core.Bool.{false, ◌||◌}
use Prim.Native.Nat.{ℕ, ◌+◌, ◌≤◌}
use native.Mathlib.Omega.{arith}
use lib.IntN.{ℤ, pos, neg_ℤ, nat_abs, ◌+ℤ◌, ◌-ℤ◌}
use lib.Signed.{lt_z}
use Rattle.reasoning.proofs.Whole.{Is, is_pos, is_add, is_minus, is_abs, same}
use Rattle.reasoning.proofs.Indexed.{Indexed, indexed}

pub counted : (lo : ℕ) {z : ℤ} {i : ℕ} → Is z i lo → i ≡ nat_abs (z +ℤ pos lo)
counted lo {z} {i} h = omega (arith, is_abs (is_add h (is_pos lo)) (omega arith))

module _ (lo hi : ℕ) (z : ℤ) (h : (lt_z z (neg_ℤ (pos lo)) || lt_z (pos hi) z) ≡ false) where
  in_bounds : Indexed lo hi z (nat_abs (z +ℤ pos lo))
  in_bounds = indexed lo hi z (nat_abs (z +ℤ pos lo)) h refl

  pub count_le : nat_abs (z +ℤ pos lo) ≤ lo + hi
  count_le = in_bounds.most

  pub count_back : pos (nat_abs (z +ℤ pos lo)) -ℤ pos lo ≡ z
  count_back = same (is_minus (is_pos (nat_abs (z +ℤ pos lo))) (is_pos lo)) in_bounds.is (omega arith)

-- a count gives the number whose count it is
pub back_count : (lo n : ℕ) → nat_abs (pos n -ℤ pos lo +ℤ pos lo) ≡ n
back_count lo n = let m = is_abs (is_add (is_minus (is_pos n) (is_pos lo)) (is_pos lo)) in omega (arith, m (omega arith))
