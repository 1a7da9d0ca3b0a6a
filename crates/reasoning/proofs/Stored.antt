-- A list whose first k places are stored anew, and one place more. Assumes nothing.
use mathlib.Core.Path.{◌≡◌, refl, ap}
use mathlib.Core.List.{List, [], ◌∷◌, ◌++◌}
use Prim.Native.Nat.{ℕ, zero, suc, ◌+◌, ◌<◌, ◌≤◌}
use native.Mathlib.Nat.{not-suc-le-zero, le_of_suc-le-suc}
use native.Mathlib.Numerals.{add-one}
use lib.ListN.{length, take, drop, set, get_or}

module _ {A : Type 0} where
  one_more : (xs ys : List A) (k : ℕ) (d : A) → k < length xs → k < length ys
      → set (take k xs ++ drop k ys) k (get_or xs k d) ≡ take (suc k) xs ++ drop (suc k) ys
  one_more [] ys k d h g = absurd (not-suc-le-zero h)
  one_more (x ∷ xs) [] k d h g = absurd (not-suc-le-zero g)
  one_more (x ∷ xs) (y ∷ ys) zero d h g = refl
  one_more (x ∷ xs) (y ∷ ys) (suc k) d h g = ap (λ (l : List A). x ∷ l) (one_more xs ys k d (le_of_suc-le-suc h) (le_of_suc-le-suc g))

  pub more_stored : (xs ys : List A) (k : ℕ) (d : A) → k < length xs → k < length ys
      → set (take k xs ++ drop k ys) k (get_or xs k d) ≡ take (k + 1) xs ++ drop (k + 1) ys
  more_stored xs ys k d h g = rw add-one (one_more xs ys k d h g)

  pub stored_length : (xs ys : List A) (k : ℕ) → k ≤ length xs → k ≤ length ys → length (take k xs ++ drop k ys) ≡ length ys
  stored_length xs ys zero h g = refl
  stored_length [] ys (suc k) h g = absurd (not-suc-le-zero h)
  stored_length (x ∷ xs) [] (suc k) h g = absurd (not-suc-le-zero g)
  stored_length (x ∷ xs) (y ∷ ys) (suc k) h g = ap suc (stored_length xs ys k (le_of_suc-le-suc h) (le_of_suc-le-suc g))
