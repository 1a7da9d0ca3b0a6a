-- The equation as an answer, from the size at the anomaly: added below the half circle, taken away from there on; a refusal is
-- passed on. Assumes nothing.
use mathlib.Core.Path.{◌≡◌, refl}
use Prim.Native.Nat.{ℕ, ◌≤◌, ◌<◌}
use borrow.Author.Tests.{lt-ltb, le-ltb}
use lib.IntN.{ℤ, pos, neg_ℤ}
use Rattle.reasoning.specs.Answer.{value, refused}
use Rattle.law.specs.Document.{half, in_circle, tangent, angle, equation, off_table, equation_answer}
use Rattle.reasoning.proofs.Answers.{passed, stopped}
use Rattle.motion.specs.Working.{size_answer}

-- a is the anomaly given, brought into the circle; `size` a size there, or the number of a refusal
module _ (e a : ℕ) (given : ℤ) (h : a ≡ in_circle given) (size : ℕ) where
  pub equation_added : value size ≡ size_answer e a → a < half → value (pos size) ≡ equation_answer e given
  unfolding size_answer equation_answer equation
  equation_added s l =
      let p = passed (off_table e a) 5 (angle (tangent e a)) s in
      rw (← h, p.test, lt-ltb _ _ l, p.is) refl

  pub equation_taken : value size ≡ size_answer e a → half ≤ a → value (neg_ℤ (pos size)) ≡ equation_answer e given
  unfolding size_answer equation_answer equation
  equation_taken s l =
      let p = passed (off_table e a) 5 (angle (tangent e a)) s in
      rw (← h, p.test, le-ltb _ _ l, p.is) refl

  pub equation_refused : refused size ≡ size_answer e a → refused size ≡ equation_answer e given
  unfolding size_answer equation_answer
  equation_refused s =
      let p = stopped (off_table e a) 5 (angle (tangent e a)) s in
      rw (← h, p.test, p.is) refl
