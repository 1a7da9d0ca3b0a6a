-- A list filled from its first place on: once each place k holds what f gives at k, the list is f's values in order. Assumes nothing.
use mathlib.Core.Path.{◌≡◌, refl, ap, sym, ◌∙◌}
use mathlib.Core.List.{List, map}
use Prim.Native.Nat.{ℕ, zero, suc, ◌+◌, ◌<◌}
use native.Mathlib.Decide.{dec_lt}
use native.Mathlib.Nat.{le_of_suc-le-suc}
use native.Mathlib.Omega.{arith}
use lib.ListN.{length, get_or, set, length-map, get_or-map}
use lib.Seq.{ext_get_or, get_or-set_same, get_or-set_other}
use Rattle.reasoning.specs.InOrder.{in_order}

pub in_order_length : {A : Type 0} (f : ℕ → A) (n : ℕ) → length (in_order f n) ≡ n
unfolding in_order
in_order_length f zero = refl
in_order_length f (suc n) = ap suc (in_order_length (λ (k : ℕ). f (suc k)) n)

pub in_order_at : {A : Type 0} (f : ℕ → A) (n i : ℕ) (d : A) → i < n → get_or (in_order f n) i d ≡ f i
unfolding in_order
in_order_at f zero i d h = absurd (omega arith)
in_order_at f (suc n) zero d h = refl
in_order_at f (suc n) (suc i) d h = in_order_at (λ (k : ℕ). f (suc k)) n i d (le_of_suc-le-suc h)

-- the first k places hold f's values, as g reads them; d is any value to read past the end
pub record FilledTo {A B : Type 0} (g : A → B) (f : ℕ → B) (d : A) (xs : List A) (k : ℕ) : Type 0 where
  pub at : (i : ℕ) → i < k → g (get_or xs i d) ≡ f i

module _ {A B : Type 0} (g : A → B) (f : ℕ → B) (d : A) where
  pub filled_none : (xs : List A) → FilledTo g f d xs 0
  filled_none xs = record { at = λ (i : ℕ) (h : i < 0). absurd (omega arith) }

  pub filled_more : (xs : List A) (k : ℕ) (v : A) → FilledTo g f d xs k → k < length xs → g v ≡ f k → FilledTo g f d (set xs k v) (k + 1)
  filled_more xs k v w l e = record { at = λ (i : ℕ) (h : i < k + 1). go i h (dec_lt i k) }
    where
      go : (i : ℕ) → i < k + 1 → Dec (i < k) → g (get_or (set xs k v) i d) ≡ f i
      go i h (yes m) = ap g (get_or-set_other xs k i v d (λ (s : i ≡ k). omega arith)) ∙ w.at i m
      go i h (no m) = let s : i ≡ k = omega arith in rw s (ap g (get_or-set_same xs k v d l) ∙ e)

  pub filled_all : (xs : List A) (n : ℕ) → length xs ≡ n → FilledTo g f d xs n → map g xs ≡ in_order f n
  filled_all xs n l w =
      ext_get_or (g d) (map g xs) (in_order f n) (length-map xs g ∙ (l ∙ sym (in_order_length f n)))
      (λ (i : ℕ) (h : i < length (map g xs)).
      let m : i < n = omega (arith, length-map xs g) in
      get_or-map g xs i d ∙ (w.at i m ∙ sym (in_order_at f n i (g d) m)))

-- two functions that agree give the same list
pub in_order_same : {A : Type 0} (f g : ℕ → A) (n : ℕ) → ((k : ℕ) → k < n → f k ≡ g k) → in_order f n ≡ in_order g n
unfolding in_order
in_order_same f g zero h = refl
in_order_same f g (suc n) h =
    rw (h 0 (omega arith), in_order_same (λ (k : ℕ). f (suc k)) (λ (k : ℕ). g (suc k)) n (λ (k : ℕ) (l : k < n). h (suc k) (omega arith))) refl
