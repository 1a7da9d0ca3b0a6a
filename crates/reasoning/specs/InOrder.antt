-- The values of a function in order. Assumes nothing.
use Rattle.std.specs.Prelude.{List, [], ◌∷◌, ℕ, zero, suc}

-- f 0, f 1 and so on, n of them
unfoldable pub in_order : {A : Type 0} → (ℕ → A) → ℕ → List A
in_order f zero = []
in_order f (suc n) = f 0 ∷ in_order (λ (k : ℕ). f (suc k)) n
