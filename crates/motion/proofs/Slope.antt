-- What gains so much with each unit gains so much for each over many; so a table's value between its entries climbs, over any
-- stretch of arc, as its steps do. Assumes nothing.
use mathlib.Core.Path.{◌≡◌, ap, subst}
use Prim.Native.Nat.{ℕ, zero, suc, ◌+◌, ◌*◌, ◌-◌, ◌/◌, ◌%◌, ◌≤◌, ◌<◌}
use native.Mathlib.Nat.{add-zero, add-suc, mul-zero}
use native.Mathlib.Decide.{dec_lt}
use native.Mathlib.Omega.{arith}
use Rattle.law.specs.Document.{ten_minutes, between}

-- from a to b: at least so much more, and at most so much
pub record Gains (low high a b : ℕ) : Type 0 where
  pub least : a + low ≤ b
  pub most : b ≤ a + high

module _ (f : ℕ → ℕ) (p q low high : ℕ) (one : (x : ℕ) → p ≤ x → x < q → Gains low high (f x) (f (suc x))) where
  over : (x n : ℕ) → p ≤ x → x + n ≤ q → Gains (low * n) (high * n) (f x) (f (x + n))
  over x zero h g = rw add-zero (omega arith)
  over x (suc n) h g =
      let r = over x n h (omega arith) in
      let s = one (x + n) (omega arith) (omega arith) in
      rw add-suc (omega arith)

  pub gains : (x y : ℕ) → p ≤ x → x ≤ y → y ≤ q → Gains (low * (y - x)) (high * (y - x)) (f x) (f y)
  gains x y h l g =
      let there : x + (y - x) ≡ y = omega arith in
      subst (λ (z : ℕ). Gains (low * (y - x)) (high * (y - x)) (f x) (f z)) there (over x (y - x) h (omega arith))

-- ---- a table with an entry for each 10′

-- the value at x before it is rounded, times ten minutes
unfoldable pub full : (ℕ → ℕ) → ℕ → ℕ
full entry x =
    ten_minutes * entry (x / ten_minutes) + (entry (x / ten_minutes + 1) - entry (x / ten_minutes)) * (x % ten_minutes)

-- the two laws of how it is rounded: the first leaves half a unit of room; the second is exact, and serves below alone
pub between_le : (entry : ℕ → ℕ) (x : ℕ) → ten_minutes * between entry x ≤ full entry x + ten_minutes / 2
unfolding between full
between_le entry x = omega arith

between_cut : (entry : ℕ → ℕ) (x : ℕ)
    → (ten_minutes * between entry x ≤ full entry x) × (full entry x < ten_minutes * between entry x + ten_minutes)
unfolding between full
between_cut entry x = omega arith

-- at an entry nothing is over
pub between_entry : (entry : ℕ → ℕ) (k : ℕ) → between entry (k * ten_minutes) ≡ entry k
unfolding full
between_entry entry k =
    let q : k * ten_minutes / ten_minutes ≡ k = omega arith in
    let r : k * ten_minutes % ten_minutes ≡ 0 = omega arith in
    omega (arith, rw (q, r) at (between_cut entry (k * ten_minutes)))

-- from entry p to entry q each step is from 0 to d
pub record Steps (entry : ℕ → ℕ) (p q d : ℕ) : Type 0 where
  pub at : (k : ℕ) → p ≤ k → k < q → Gains 0 d (entry k) (entry (k + 1))

-- from a to b over n units: never less, and at most d more for each 10′, and 1
pub record Climbs (d n a b : ℕ) : Type 0 where
  pub rises : a ≤ b
  pub climbs : ten_minutes * b ≤ ten_minutes * a + d * n + ten_minutes

-- in plain numbers: one unit on, r units past the entry a, and at the next entry b
in_step : (a b r d : ℕ) → Gains 0 d a b → Gains 0 d (ten_minutes * a + (b - a) * r) (ten_minutes * a + (b - a) * (r + 1))
in_step a b r d h = omega arith

at_end : (a b r d : ℕ) → Gains 0 d a b → r + 1 ≡ ten_minutes → Gains 0 d (ten_minutes * a + (b - a) * r) (ten_minutes * b)
at_end a b r d h e = omega (arith, ap (λ (z : ℕ). (b - a) * z) e)

module _ {entry : ℕ → ℕ} {p q d : ℕ} (s : Steps entry p q d) where
  full_one : (x : ℕ) → p * ten_minutes ≤ x → x < q * ten_minutes → Gains 0 d (full entry x) (full entry (suc x))
  unfolding full
  full_one x h g = go (dec_lt (x % ten_minutes + 1) ten_minutes)
    where
      k : Gains 0 d (entry (x / ten_minutes)) (entry (x / ten_minutes + 1))
      k = s.at (x / ten_minutes) (omega arith) (omega arith)

      go : Dec (x % ten_minutes + 1 < ten_minutes) → Gains 0 d (full entry x) (full entry (suc x))
      go (yes l) =
          let e : suc x / ten_minutes ≡ x / ten_minutes = omega arith in
          let m : suc x % ten_minutes ≡ x % ten_minutes + 1 = omega arith in
          rw (e, m) (in_step (entry (x / ten_minutes)) (entry (x / ten_minutes + 1)) (x % ten_minutes) d k)
      go (no l) =
          let e : suc x / ten_minutes ≡ x / ten_minutes + 1 = omega arith in
          let m : suc x % ten_minutes ≡ 0 = omega arith in
          rw (e, m, mul-zero, add-zero) (at_end (entry (x / ten_minutes)) (entry (x / ten_minutes + 1)) (x % ten_minutes) d k (omega arith))

  pub between_climbs : (x y : ℕ) → p * ten_minutes ≤ x → x ≤ y → y ≤ q * ten_minutes → Climbs d (y - x) (between entry x) (between entry y)
  between_climbs x y h l g =
      let w = gains (full entry) (p * ten_minutes) (q * ten_minutes) 0 d full_one x y h l g in
      omega (arith, between_cut entry x, between_cut entry y)
