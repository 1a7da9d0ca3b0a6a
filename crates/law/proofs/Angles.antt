-- The angle of a tangent: which minute is the last not above it, and how large the angle can be. Assumes nothing.
use mathlib.Core.Path.{◌≡◌, refl, ap}
use Prim.Native.Nat.{ℕ, zero, suc, ◌+◌, ◌*◌, ◌-◌, ◌/◌, ◌≤◌, ◌<◌}
use native.Mathlib.Decide.{dec_le, dec_lt}
use native.Mathlib.Nat.{div-lt_iff_lt-mul, div-zero}
use native.Mathlib.Omega.{arith}
use borrow.Author.Tests.{le-leb, lt-leb}
use Rattle.law.specs.Entry.{last_tangent, tangent_entry}
use Rattle.law.specs.Document.{minute, last_minute, angle_past, angle}
use Rattle.law.proofs.Rules.{tangent_first, tangent_run, tangent_past}

-- m is the last minute up to n whose entry is not above t
pub record Last (t n m : ℕ) : Type 0 where
  pub most : m ≤ n
  pub reached : tangent_entry m ≤ t
  pub past : (k : ℕ) → m < k → k ≤ n → t < tangent_entry k

pub last_minute_lem : (t n : ℕ) → Last t n (last_minute t n)
unfolding last_minute
last_minute_lem t zero =
    record { most = omega arith; reached = omega (arith, tangent_first); past = λ (k : ℕ) (l : 0 < k) (h : k ≤ 0). absurd (omega arith) }
last_minute_lem t (suc n) = go (dec_le (tangent_entry (suc n)) t) (last_minute_lem t n)
  where
    go : Dec (tangent_entry (suc n) ≤ t) → Last t n (last_minute t n) → Last t (suc n) (last_minute t (suc n))
    go (yes l) r =
        rw (le-leb _ _ l) (record { most = omega arith; reached = l; past = λ (k : ℕ) (g : suc n < k) (h : k ≤ suc n). absurd (omega arith) })
    go (no l) r =
        let w : t < tangent_entry (suc n) = omega arith in
        rw (lt-leb _ _ w)
        (record { most = omega (arith, r.most); reached = r.reached; past = λ (k : ℕ) (g : last_minute t n < k) (h : k ≤ suc n). above k g h (dec_le k n) })
      where
        above : (k : ℕ) → last_minute t n < k → k ≤ suc n → Dec (k ≤ n) → t < tangent_entry k
        above k g h (yes i) = r.past k g i
        above k g h (no i) = let e : k ≡ suc n = omega arith in omega (arith, ap tangent_entry e)

-- and only one is
pub last_one : (t n m : ℕ) → Last t n m → last_minute t n ≡ m
last_one t n m r =
    let s = last_minute_lem t n in
    go s (dec_lt (last_minute t n) m) (dec_lt m (last_minute t n))
  where
    go : Last t n (last_minute t n) → Dec (last_minute t n < m) → Dec (m < last_minute t n) → last_minute t n ≡ m
    go s (yes l) _ = absurd (omega (arith, s.past m l r.most, r.reached))
    go s (no l) (yes g) = absurd (omega (arith, r.past (last_minute t n) g s.most, s.reached))
    go s (no l) (no g) = omega arith

-- the entries rise, so the two around t name its minute
pub angle_at : (t m : ℕ) → m < last_tangent → tangent_entry m ≤ t → t < tangent_entry (m + 1) → angle t ≡ angle_past m t
unfolding angle
angle_at t m h g l = ap (λ (i : ℕ). angle_past i t) (last_one t last_tangent m (record { most = omega arith; reached = g; past = past }))
  where
    past : (k : ℕ) → m < k → k ≤ last_tangent → t < tangent_entry k
    past k i j =
        let e : m + 1 + (k - (m + 1)) ≡ k = omega arith in
        omega (arith, ap tangent_entry e, tangent_run (k - (m + 1)) (m + 1) (omega arith))

-- at the last entry, and past it, the angle is 130′
last_part : (x : ℕ) → x / (tangent_entry (last_tangent + 1) - tangent_entry last_tangent) ≡ 0
last_part x =
    let e : tangent_entry (last_tangent + 1) - tangent_entry last_tangent ≡ 0 = omega (arith, tangent_past 131 (omega arith)) in
    rw (e, div-zero) refl

pub angle_end : (t : ℕ) → tangent_entry last_tangent ≤ t → angle t ≡ last_tangent * minute
unfolding angle angle_past
angle_end t h =
    let i : last_minute t last_tangent ≡ last_tangent =
    last_one t last_tangent last_tangent (record { most = omega arith; reached = h; past = λ (k : ℕ) (l : last_tangent < k) (g : k ≤ last_tangent). absurd (omega arith) }) in
    rw i (omega (arith, last_part ((t - tangent_entry last_tangent) * minute)))

-- a part of a minute is at most the minute
pub part_le : (t below above : ℕ) → below ≤ t → t < above → (t - below) * minute / (above - below) ≤ minute
part_le t below above h g =
    let w : (t - below) * minute / (above - below) < minute + 1 = (div-lt_iff_lt-mul {k = above - below} (omega arith)).1 (omega arith) in
    omega arith

past_below : (t m : ℕ) → m < last_tangent → Last t last_tangent m → angle_past m t ≤ last_tangent * minute
unfolding angle_past
past_below t m h s = omega (arith, part_le t (tangent_entry m) (tangent_entry (m + 1)) s.reached (s.past (m + 1) (omega arith) (omega arith)))

pub angle_le : (t : ℕ) → angle t ≤ last_tangent * minute
unfolding angle
angle_le t = go (dec_lt (last_minute t last_tangent) last_tangent)
  where
    s : Last t last_tangent (last_minute t last_tangent)
    s = last_minute_lem t last_tangent

    go : Dec (last_minute t last_tangent < last_tangent) → angle t ≤ last_tangent * minute
    go (yes h) = past_below t (last_minute t last_tangent) h s
    go (no h) =
        let e : last_minute t last_tangent ≡ last_tangent = omega (arith, s.most) in
        omega (arith, angle_end t (omega (arith, ap tangent_entry e, s.reached)))
