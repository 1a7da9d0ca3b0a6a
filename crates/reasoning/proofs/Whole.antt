-- Signed numbers read as one number less another, so that `omega` proves facts about them: `Is z a b` says that z is a less b.
-- An expression is read by is_pos, is_neg, is_add, is_minus, is_times; `same`, `lt_is`, `le_is` conclude from two readings.
-- Assumes nothing.
use mathlib.Core.Path.{◌≡◌, refl, ap}
use mathlib.Core.Bool.{Bool, true, false, not, cond}
use Prim.Native.Nat.{ℕ, zero, suc, ◌+◌, ◌*◌, ◌-◌, ◌≤◌, ◌<◌}
use native.Mathlib.Nat.{add-mul}
use native.Mathlib.Omega.{arith}
use lib.Dec.{T, ltb, ltb→lt, lt→ltb, nltb→le, leb→le, le→leb}
use lib.IntN.{ℤ, pos, negsuc, neg_ℤ, nat_abs, sub_ℕ, ◌+ℤ◌, ◌-ℤ◌, ◌*ℤ◌}
use lib.Signed.{lt_z, ◌≤ℤ◌, ◌<ℤ◌}

-- what z has above 0, and below
unfoldable pub up : ℤ → ℕ
up (pos n) = n
up (negsuc n) = 0

unfoldable pub down : ℤ → ℕ
down (pos n) = 0
down (negsuc n) = suc n

-- z is a less b
pub record Is (z : ℤ) (a b : ℕ) : Type 0 where
  pub parts : up z + b ≡ down z + a

pub is_pos : (n : ℕ) → Is (pos n) n 0
unfolding up down
is_pos n = omega arith

is_cond : (c : Bool) (a b : ℕ) → (T c → a < b) → (T (not c) → b ≤ a) → Is (cond c (negsuc (b - suc a)) (pos (a - b))) a b
unfolding up down
is_cond true a b f g = omega (arith, f tt)
is_cond false a b f g = omega (arith, g tt)

pub is_sub : (a b : ℕ) → Is (sub_ℕ a b) a b
is_sub a b = is_cond (ltb a b) a b (ltb→lt a b) (nltb→le a b)

pub is_neg : {x : ℤ} {a b : ℕ} → Is x a b → Is (neg_ℤ x) b a
unfolding up down
is_neg {x = pos zero} p = omega arith
is_neg {x = pos (suc n)} p = omega arith
is_neg {x = negsuc n} p = omega arith

pub is_add : {x y : ℤ} {a b c d : ℕ} → Is x a b → Is y c d → Is (x +ℤ y) (a + c) (b + d)
unfolding up down
is_add {x = pos m} {y = pos n} p q = omega arith
is_add {x = pos m} {y = negsuc n} p q = omega (arith, is_sub m (suc n))
is_add {x = negsuc m} {y = pos n} p q = omega (arith, is_sub n (suc m))
is_add {x = negsuc m} {y = negsuc n} p q = omega arith

pub is_minus : {x y : ℤ} {a b c d : ℕ} → Is x a b → Is y c d → Is (x -ℤ y) (a + d) (b + c)
is_minus p q = is_add p (is_neg q)

pub is_next : {x : ℤ} {a b : ℕ} → Is x a b → Is (x +ℤ pos 1) (suc a) b
is_next p = omega (arith, is_add p (is_pos 1))

pub is_times : {x : ℤ} {a b : ℕ} (k : ℕ) → Is x a b → Is (x *ℤ pos k) (a * k) (b * k)
unfolding up down
is_times {x = pos m} {a} {b} k p = omega (arith, ap (λ (t : ℕ). t * k) p.parts, add-mul m b k, add-mul 0 a k)
is_times {x = negsuc m} {a} {b} k p =
    omega (arith, is_neg (is_pos (suc m * k)), ap (λ (t : ℕ). t * k) p.parts, add-mul 0 b k, add-mul (suc m) a k)

-- two numbers with one reading are one number
pub same : {x y : ℤ} {a b c d : ℕ} → Is x a b → Is y c d → a + d ≡ c + b → x ≡ y
unfolding up down
same {x = pos m} {y = pos n} p q h = ap pos (omega arith)
same {x = pos m} {y = negsuc n} p q h = absurd (omega arith)
same {x = negsuc m} {y = pos n} p q h = absurd (omega arith)
same {x = negsuc m} {y = negsuc n} p q h = ap negsuc (omega arith)

-- ---- order

pub lt_is : {x y : ℤ} {a b c d : ℕ} → Is x a b → Is y c d → a + d < c + b → x <ℤ y
unfolding up down
lt_is {x = pos m} {y = pos n} p q h = record { lt = lt→ltb m n (omega arith) }
lt_is {x = pos m} {y = negsuc n} p q h = absurd (omega arith)
lt_is {x = negsuc m} {y = pos n} p q h = record { lt = tt }
lt_is {x = negsuc m} {y = negsuc n} p q h = record { lt = lt→ltb n m (omega arith) }

pub is_lt : {x y : ℤ} {a b c d : ℕ} → Is x a b → Is y c d → x <ℤ y → a + d < c + b
unfolding up down
is_lt {x = pos m} {y = pos n} p q h = omega (arith, ltb→lt m n h.lt)
is_lt {x = pos m} {y = negsuc n} p q h = absurd h.lt
is_lt {x = negsuc m} {y = pos n} p q h = omega arith
is_lt {x = negsuc m} {y = negsuc n} p q h = omega (arith, ltb→lt n m h.lt)

pub le_is : {x y : ℤ} {a b c d : ℕ} → Is x a b → Is y c d → a + d ≤ c + b → x ≤ℤ y
unfolding up down
le_is {x = pos m} {y = pos n} p q h = record { le = le→leb m n (omega arith) }
le_is {x = pos m} {y = negsuc n} p q h = absurd (omega arith)
le_is {x = negsuc m} {y = pos n} p q h = record { le = tt }
le_is {x = negsuc m} {y = negsuc n} p q h = record { le = le→leb n m (omega arith) }

pub is_le : {x y : ℤ} {a b c d : ℕ} → Is x a b → Is y c d → x ≤ℤ y → a + d ≤ c + b
unfolding up down
is_le {x = pos m} {y = pos n} p q h = omega (arith, leb→le m n h.le)
is_le {x = pos m} {y = negsuc n} p q h = absurd h.le
is_le {x = negsuc m} {y = pos n} p q h = omega arith
is_le {x = negsuc m} {y = negsuc n} p q h = omega (arith, leb→le n m h.le)

both_ways : (b c : Bool) → (T b → T c) → (T c → T b) → b ≡ c
both_ways true true f g = refl
both_ways true false f g = absurd (f tt)
both_ways false true f g = absurd (g tt)
both_ways false false f g = refl

pub lt_z_is : {x y : ℤ} {a b c d : ℕ} → Is x a b → Is y c d → lt_z x y ≡ ltb (a + d) (c + b)
lt_z_is {x} {y} {a} {b} {c} {d} p q =
    both_ways (lt_z x y) (ltb (a + d) (c + b))
    (λ (t : T (lt_z x y)). lt→ltb (a + d) (c + b) (is_lt p q (record { lt = t })))
    (λ (t : T (ltb (a + d) (c + b))). (lt_is p q (ltb→lt (a + d) (c + b) t)).lt)

-- ---- size

pub is_abs : {x : ℤ} {a b : ℕ} → Is x a b → b ≤ a → nat_abs x ≡ a - b
unfolding up down
is_abs {x = pos n} p h = omega arith
is_abs {x = negsuc n} p h = absurd (omega arith)

pub is_own : (z : ℤ) → Is z (up z) (down z)
is_own z = omega arith

pub is_from : (s : ℕ) {z : ℤ} → neg_ℤ (pos s) ≤ℤ z → Is z (nat_abs (z +ℤ pos s)) s
is_from s {z} h =
    let p = is_add (is_own z) (is_pos s) in
    let l = is_le (is_neg (is_pos s)) (is_own z) h in
    omega (arith, is_abs p (omega arith))
