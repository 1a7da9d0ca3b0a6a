-- What an answer tells of the test behind it: a value was not refused; a refusal was, and with that number. Assumes nothing.
use mathlib.Core.Path.{◌≡◌, refl, ap}
use mathlib.Core.Bool.{Bool, true, false, ◌||◌}
use Prim.Native.Nat.{ℕ}
use native.Mathlib.Omega.{arith}
use Rattle.reasoning.specs.Answer.{Answer, value, refused, refusing}

-- a value where the test may refuse with n, and x follows
pub record Passed {A : Type 0} (b : Bool) (v x : A) : Type 0 where
  pub test : b ≡ false
  pub is : v ≡ x

pub passed : {A : Type 0} (b : Bool) (n : ℕ) (x : A) {v : A} → value v ≡ refusing b n (value x) → Passed b v x
passed true n x e = absurd (let z : ◌≡◌ {A = ℕ} 0 1 = cc in omega arith)
passed false n x e = record { test = refl; is = cc }

pub record Stopped (b : Bool) (k n : ℕ) : Type 0 where
  pub test : b ≡ true
  pub is : k ≡ n

pub stopped : {A : Type 0} (b : Bool) (n : ℕ) (x : A) {k : ℕ} → refused k ≡ refusing b n (value x) → Stopped b k n
stopped true n x e = record { test = refl; is = cc }
stopped false n x e = absurd (let z : ◌≡◌ {A = ℕ} 0 1 = cc in omega arith)

pub same_value : {A : Type 0} {x y : A} → value x ≡ value y → x ≡ y
same_value e = cc

pub never : {A : Type 0} {x : A} {k : ℕ} → refused k ≡ value x → ⊥
never e = let z : ◌≡◌ {A = ℕ} 0 1 = cc in omega arith

-- neither of two tests held
pub both_no : (p q : Bool) → (p || q) ≡ false → (p ≡ false) × (q ≡ false)
both_no true q h = absurd (let z : ◌≡◌ {A = ℕ} 0 1 = cc in omega arith)
both_no false q h = (refl, h)

-- three tests in their order, and what follows
abbrev pub after : {A : Type 0} → Bool → Bool → Bool → ℕ → ℕ → ℕ → A → Answer A
after a b c i j k x = refusing a i (refusing b j (refusing c k (value x)))

-- a value passed all three; a refusal is the same whatever was to follow
pub record PassedAll {A : Type 0} (a b c : Bool) (v x : A) : Type 0 where
  pub first : a ≡ false
  pub second : b ≡ false
  pub third : c ≡ false
  pub is : v ≡ x

module _ {A : Type 0} (i j k : ℕ) (x : A) where
  pub passed_all : (a b c : Bool) {v : A} → value v ≡ after a b c i j k x → PassedAll a b c v x
  passed_all true b c e = absurd (let z : ◌≡◌ {A = ℕ} 0 1 = cc in omega arith)
  passed_all false true c e = absurd (let z : ◌≡◌ {A = ℕ} 0 1 = cc in omega arith)
  passed_all false false true e = absurd (let z : ◌≡◌ {A = ℕ} 0 1 = cc in omega arith)
  passed_all false false false e = record { first = refl; second = refl; third = refl; is = cc }

  pub passed_on : {B : Type 0} (y : B) (a b c : Bool) {n : ℕ} → refused n ≡ after a b c i j k x → refused n ≡ after a b c i j k y
  passed_on y true b c e = ap refused (cc)
  passed_on y false true c e = ap refused (cc)
  passed_on y false false true e = ap refused (cc)
  passed_on y false false false e = absurd (let z : ◌≡◌ {A = ℕ} 0 1 = cc in omega arith)
