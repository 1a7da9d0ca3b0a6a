-- A rule of a table is a test of each seat: antt computes the test over all seats once, and `seat` gives it at any one. Assumes nothing.
use mathlib.Core.Path.{◌≡◌, subst, sym}
use mathlib.Core.Bool.{Bool, true, false, ◌&&◌}
use Prim.Native.Nat.{ℕ, zero, suc, ◌≤◌, ◌<◌}
use native.Mathlib.Decide.{dec_lt}
use native.Mathlib.Omega.{arith}
use lib.Dec.{T, leb, leb→le}

-- the test passes at every seat below n
abbrev pub every : (ℕ → Bool) → ℕ → Bool
every f zero = true
every f (suc n) = f n && every f n

pub left : (a b : Bool) → T (a && b) → T a
left true b t = tt
left false b t = absurd t

pub right : (a b : Bool) → T (a && b) → T b
right true b t = t
right false b t = absurd t

pub seat : (f : ℕ → Bool) (n : ℕ) → T (every f n) → (k : ℕ) → k < n → T (f k)
seat f zero t k h = absurd (omega arith)
seat f (suc n) t k h = go (dec_lt k n) (λ (l : k < n). seat f n (right (f n) (every f n) t) k l)
  where
    go : Dec (k < n) → (k < n → T (f k)) → T (f k)
    go (yes l) r = r l
    go (no l) r = let e : k ≡ n = omega arith in subst (λ (m : ℕ). T (f m)) (sym e) (left (f n) (every f n) t)

-- two orders from their two tests; the goal shows the four numbers
pub orders : {a b c d : ℕ} → T (leb a b && leb c d) → (a ≤ b) × (c ≤ d)
orders {a} {b} {c} {d} t = (
  leb→le a b (left (leb a b) (leb c d) t),
  leb→le c d (right (leb a b) (leb c d) t),
)
