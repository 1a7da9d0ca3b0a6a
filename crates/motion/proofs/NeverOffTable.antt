-- At any difference of the epicycles up to document 01's, no anomaly has a tangent above the table's end, and the equation is never
-- more than 7,391″, the 2°03′11″ of source 004, either way. Assumes nothing.
use mathlib.Core.Path.{◌≡◌}
use mathlib.Core.Bool.{false}
use Prim.Native.Nat.{ℕ, ◌+◌, ◌*◌, ◌≤◌}
use native.Mathlib.Decide.{dec_le}
use native.Mathlib.Omega.{arith}
use borrow.Author.Tests.{le-ltb}
use lib.IntN.{ℤ, pos, neg_ℤ}
use lib.Signed.{◌≤ℤ◌}
use Rattle.reasoning.proofs.Whole.{is_pos, is_neg, le_is}
use Rattle.law.specs.Entry.{last_tangent, tangent_entry}
use Rattle.law.specs.Document.{second, minute, degree, half, epicycles, mirrored, tangent, equation, off_table}
use Rattle.law.proofs.Rules.{tangent_range}
use Rattle.motion.proofs.Bridge.{mirrored_low, mirrored_high, tangent_is, equation_is}
use Rattle.motion.proofs.Reach.{most_tangent, tangent_le}
use Rattle.motion.proofs.AngleSlope.{most_equation}
use Rattle.motion.proofs.Equation.{added_taken_le}

mirrored_le : (a : ℕ) → mirrored a ≤ half
mirrored_le a = go (dec_le a half)
  where
    go : Dec (a ≤ half) → mirrored a ≤ half
    go (yes l) = omega (arith, mirrored_low a l)
    go (no l) = omega (arith, mirrored_high a (omega arith))

-- ---- the tangent

pub tangent_most : (e : ℕ) → e ≤ epicycles → (a : ℕ) → tangent e a ≤ most_tangent
tangent_most e o a = omega (arith, tangent_is e a, tangent_le e o (mirrored a) (mirrored_le a))

pub never_off_table : (e : ℕ) → e ≤ epicycles → (a : ℕ) → off_table e a ≡ false
never_off_table e o a =
    let h : tangent e a ≤ tangent_entry last_tangent =
    omega (arith, tangent_most e o a, tangent_range last_tangent (omega arith)) in
    le-ltb _ _ h

-- ---- the equation

pub in_source_004 : most_equation ≡ 2 * degree + 3 * minute + 11 * second
in_source_004 = omega arith

-- z is at most 7,391″ either way
pub record EitherWay (z : ℤ) : Type 0 where
  pub least : neg_ℤ (pos most_equation) ≤ℤ z
  pub most : z ≤ℤ pos most_equation

pub never_above_7391 : (e : ℕ) → e ≤ epicycles → (a : ℕ) → EitherWay (equation e a)
never_above_7391 e o a =
    let w = added_taken_le e a o in
    record {
      least = le_is (is_neg (is_pos most_equation)) (equation_is e a) (omega arith);
      most = le_is (equation_is e a) (is_pos most_equation) (omega arith);
    }
