-- Floor division and its remainder: read as a division of numbers from 0 up, and what a reader holds the two to. Assumes nothing.
use mathlib.Core.Path.{◌≡◌, refl, ap, sym, ◌∙◌, subst}
use Prim.Native.Nat.{ℕ, suc, ◌+◌, ◌*◌, ◌-◌, ◌/◌, ◌%◌, ◌≤◌, ◌<◌}
use native.Mathlib.Nat.{add-mul, add-mul-div_right, add-mul-mod_self_right, div-lt_iff_lt-mul, lt-div-mul-add, div-mul-le_self, div-add-mod', mod-lt, div-eq_of_lt, mod-eq_of_lt, suc-mul, one-mul, zero-mul, le-div_iff_mul-le}
use native.Mathlib.Omega.{arith}
use lib.IntN.{ℤ, pos, negsuc, ◌+ℤ◌, ◌*ℤ◌}
use Rattle.reasoning.proofs.Whole.{Is, up, down, is_pos, is_neg, is_own, is_add, is_times, same}
use Rattle.law.specs.Round.{floor_div, floor_mod}
use Rattle.law.specs.Document.{circle, in_circle}

pub div_is : {z : ℤ} {a : ℕ} (q d : ℕ) → 0 < d → Is z a (q * d) → Is (floor_div z d) (a / d) q
unfolding floor_div up down
div_is {z = pos n} {a} q d h p = let e : a ≡ n + q * d = omega arith in omega (arith, ap (λ (t : ℕ). t / d) e, add-mul-div_right n q h)
div_is {z = negsuc n} {a} q d h p =
    let s : n / d < q = (div-lt_iff_lt-mul h).1 (omega arith) in
    let k = q - suc (n / d) in
    let i : q ≡ k + suc (n / d) = omega arith in
    let e : q * d ≡ k * d + (n / d * d + d) = omega (arith, ap (λ (t : ℕ). t * d) i, add-mul k (suc (n / d)) d, suc-mul (n / d) d) in
    let u = lt-div-mul-add {a = n} h in
    let v = div-mul-le_self n d in
    let l : a / d < k + 1 = (div-lt_iff_lt-mul h).1 (omega (arith, add-mul k 1 d, one-mul d)) in
    let g : k ≤ a / d = (le-div_iff_mul-le h).1 (omega arith) in
    omega arith

pub mod_is : {z : ℤ} {a : ℕ} (q d : ℕ) → 0 < d → Is z a (q * d) → floor_mod z d ≡ a % d
unfolding floor_mod floor_div up down
mod_is {z = pos n} {a} q d h p = let e : a ≡ n + q * d = omega arith in rw (e, add-mul-mod_self_right) refl
mod_is {z = negsuc n} {a} q d h p =
    let k : Is (negsuc (n / d)) (a / d) q = div_is q d h p in
    let i : q ≡ suc (n / d) + a / d = omega arith in
    omega (arith, ap (λ (t : ℕ). t * d) i, add-mul (suc (n / d)) (a / d) d, suc-mul (n / d) d, div-add-mod' n d, div-add-mod' a d, mod-lt n h)

-- what a reader holds the two to: z is so many times d and a remainder below d
pub floor_parts : (z : ℤ) (d : ℕ) → 0 < d → z ≡ floor_div z d *ℤ pos d +ℤ pos (floor_mod z d)
unfolding floor_div floor_mod
floor_parts (pos n) d h = ap pos (sym (div-add-mod' n d))
floor_parts (negsuc n) d h =
    same (is_neg (is_pos (suc n))) (is_add (is_times d (is_neg (is_pos (suc (n / d))))) (is_pos (d - suc (n % d))))
    (omega (arith, suc-mul (n / d) d, zero-mul d, div-add-mod' n d, mod-lt n h))

pub floor_less : (z : ℤ) (d : ℕ) → 0 < d → floor_mod z d < d
unfolding floor_mod
floor_less (pos n) d h = mod-lt n h
floor_less (negsuc n) d h = omega arith

-- and nothing else is
pub floor_unique : (z q : ℤ) (d r : ℕ) → r < d → z ≡ q *ℤ pos d +ℤ pos r → (floor_div z d ≡ q) × (floor_mod z d ≡ r)
floor_unique z q d r h e =
    let g : 0 < d = omega arith in
    let p : Is z (r + up q * d) (down q * d) =
    subst (λ (t : ℤ). Is t (r + up q * d) (down q * d)) (sym e) (omega (arith, is_add (is_times d (is_own q)) (is_pos r))) in
    let i : (r + up q * d) / d ≡ up q = add-mul-div_right r (up q) g ∙ omega (arith, div-eq_of_lt h) in (
      same (div_is (down q) d g p) (is_own q) (omega arith),
      mod_is (down q) d g p ∙ add-mul-mod_self_right r (up q) d ∙ mod-eq_of_lt h,
    )

-- ---- brought into the circle, by the size of the number

pub in_circle_from_0 : (z : ℤ) (size : ℕ) → z ≡ pos size → size % circle ≡ in_circle z
unfolding in_circle floor_mod
in_circle_from_0 z size e = ap in_circle (sym e)

pub in_circle_below_0 : (z : ℤ) (n size : ℕ) → z ≡ negsuc n → size ≡ suc n → circle - 1 - (size - 1) % circle ≡ in_circle z
unfolding in_circle floor_mod
in_circle_below_0 z n size e h =
    let i : size - 1 ≡ n = omega arith in
    let j : circle - 1 - (size - 1) % circle ≡ in_circle (negsuc n) = rw i (omega arith) in
    j ∙ ap in_circle (sym e)
