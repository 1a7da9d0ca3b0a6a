-- A number's digits come one after the other. Assumes nothing.
use mathlib.Core.Path.{◌≡◌, refl, sym}
use mathlib.Core.List.{List, [], ◌∷◌, ◌++◌, append_assoc, append-nil}
use Prim.Native.Nat.{ℕ, zero, suc, ◌+◌, ◌-◌, ◌/◌, ◌%◌, ◌≤◌, ◌<◌}
use native.Mathlib.Omega.{arith}
use borrow.Author.Tests.{lt-ltb, le-ltb}
use Rattle.law.specs.Request.{digits_of}

pub no_digit_more : (text : List ℕ) (most v : ℕ) → most ≡ 0 → text ++ digits_of most v ≡ text
unfolding digits_of
no_digit_more text most v e = rw e (append-nil text)

pub last_digit : (text : List ℕ) (most v : ℕ) → (most ≡ 0 → ⊥) → v < 10 → text ++ digits_of most v ≡ text ++ ((48 + v) ∷ [])
unfolding digits_of
last_digit text zero v h l = absurd (h refl)
last_digit text (suc k) v h l = rw (lt-ltb _ _ l) refl

pub more_digits : (text : List ℕ) (most v : ℕ) → (most ≡ 0 → ⊥) → 10 ≤ v
    → text ++ digits_of most v ≡ (text ++ digits_of (most - 1) (v / 10)) ++ ((48 + v % 10) ∷ [])
unfolding digits_of
more_digits text zero v h l = absurd (h refl)
more_digits text (suc k) v h l = let e : suc k - 1 ≡ k = omega arith in rw (le-ltb _ _ l, e) (sym (append_assoc text (digits_of k (v / 10)) ((48 + v % 10) ∷ [])))

pub ruleset digit_by_digit = (no_digit_more, last_digit, more_digits)
