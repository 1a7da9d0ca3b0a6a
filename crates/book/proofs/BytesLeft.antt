-- What is left of a book from a byte on, and what stands first in it. Assumes nothing.
use mathlib.Core.List.{List}
use mathlib.Core.Path.{◌≡◌, ◌∙◌, ap}
use Prim.Native.Nat.{ℕ, ◌+◌}
use native.Mathlib.Nat.{add-zero, add_assoc}
use lib.ListN.{get_or, drop}
use lib.Seq.{get_or-drop}
use Rattle.law.specs.Book.{two_at}

pub first : (s : List ℕ) (a : ℕ) → get_or (drop a s) 0 0 ≡ get_or s a 0
first s a = get_or-drop a s 0 0 ∙ ap (λ (i : ℕ). get_or s i 0) (add-zero a)

pub two_drop : (s : List ℕ) (a i : ℕ) → two_at (drop a s) i ≡ two_at s (a + i)
two_drop s a i = simp (get_or-drop, add_assoc)
