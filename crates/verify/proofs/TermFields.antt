-- A term's record beside our values, as the machine compares them: the day that two bytes count is lowered by 4. Assumes nothing.
use mathlib.Core.Bool.{true, false, not}
use mathlib.Core.List.{List}
use mathlib.Core.Path.{◌≡◌, refl, subst, ◌∙◌, ap}
use Prim.Native.Nat.{ℕ, ◌<◌}
use native.Mathlib.Omega.{arith}
use borrow.Author.Tests.{eq-eqb, ne_eqb}
use lib.Dec.{eqb}
use lib.IntN.{ℤ, pos, ◌-ℤ◌}
use mir.Syntax.{w64}
use mir.Val.{SFits, to_z, of_z}
use mir.Facts.{to_z-of_z}
use Rattle.reasoning.proofs.Whole.{Is, is_pos, is_minus, same}
use Rattle.reasoning.proofs.Indexed.{indexed}
use Rattle.law.specs.Document.{bad_day, TermValues}
use Rattle.law.specs.Index.{day_index}
use Rattle.law.specs.Book.{two_at}
use Rattle.units.proofs.Machine.{is_wide, Lowered, lowered}
use Rattle.units.proofs.Counts.{counted}
use Rattle.verify.specs.Verify.{term_differs}

pub down : (x : ℕ) → x < 65_536 → Lowered w64 4 x
down x small = lowered w64 4 x (omega arith) (omega arith)

-- x counts a day from -4 on, and d is ours
module _ (x : ℕ) (small : x < 65_536) (d : ℤ) (f : SFits w64 d) where
  day_other : bad_day d ≡ false → (of_z w64 (to_z w64 x -ℤ pos 4) ≡ of_z w64 d → ⊥) → eqb x (day_index d) ≡ false
  day_other h n =
      ne_eqb x (day_index d)
      (λ e. n (ap (of_z w64) (same (is_minus (is_wide w64 {n = x} (omega arith)) (is_pos 4)) (indexed 4 370 d (day_index d) h refl).is (omega arith))))

  day_same : of_z w64 (to_z w64 x -ℤ pos 4) ≡ of_z w64 d → eqb x (day_index d) ≡ true
  day_same e = eq-eqb x (day_index d) (counted 4 (subst (λ (z : ℤ). Is z x 4) (ap (to_z w64) e ∙ to_z-of_z f) (down x small).is))

-- the record b, with its day in x and its minute in m
module _ (b : List ℕ) (t : TermValues) (x : ℕ) (day : (x ≡ two_at b 2) × (x < 65_536)) (f : SFits w64 t.day_of_term) where
  pub other_day : bad_day t.day_of_term ≡ false → (of_z w64 (to_z w64 x -ℤ pos 4) ≡ of_z w64 t.day_of_term → ⊥)
      → not (eqb (of_z w64 (to_z w64 x -ℤ pos 4)) (of_z w64 t.day_of_term)) ≡ term_differs b t
  unfolding term_differs
  other_day h n =
      rw (ne_eqb (of_z w64 (to_z w64 x -ℤ pos 4)) (of_z w64 t.day_of_term) n, ← day.0, day_other x day.1 t.day_of_term f h n) refl

  pub same_day : of_z w64 (to_z w64 x -ℤ pos 4) ≡ of_z w64 t.day_of_term → (m : ℕ) → m ≡ two_at b 4 → not (eqb m t.minute_of_term) ≡ term_differs b t
  unfolding term_differs
  same_day e m q = rw (← day.0, ← q, day_same x day.1 t.day_of_term f e) refl
