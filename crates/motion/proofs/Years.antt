-- What the theorems of this crate share: the years of document 01, and a day that has a mark. Assumes nothing.
use mathlib.Core.Path.{◌≡◌}
use mathlib.Core.Bool.{false}
use Prim.Native.Nat.{ℕ, ◌≤◌}
use native.Mathlib.Omega.{arith}
use lib.IntN.{ℤ, pos, neg_ℤ, ◌+ℤ◌}
use lib.Signed.{lt_z, ◌≤ℤ◌, ◌<ℤ◌, lt_z_no}
use Rattle.reasoning.proofs.Whole.{Is, is_pos, is_le, is_from}
use Rattle.reasoning.proofs.Answers.{both_no}
use Rattle.reasoning.proofs.Indexed.{false_not}
use Rattle.law.specs.Index.{year_index}
use Rattle.law.specs.Document.{bad_year, run_on_place}
use Rattle.motion.specs.Working.{lift, place_of}
use Rattle.motion.proofs.Bridge.{run_on_is}

-- N is from -2,000 to 2,000
pub record InYears (N : ℤ) : Type 0 where
  pub least : neg_ℤ (pos 2_000) ≤ℤ N
  pub most : N ≤ℤ pos 2_000

-- the run-on place at d ≤ m < that at d + 1
pub record Holds (e : ℕ) (N m d : ℤ) : Type 0 where
  pub before : run_on_place e N d ≤ℤ m
  pub after : m <ℤ run_on_place e N (d +ℤ pos 1)

-- a year that document 01 does not refuse is one of them
pub in_years : {N : ℤ} → bad_year N ≡ false → InYears N
in_years {N} h =
    let n = both_no (lt_z N (neg_ℤ (pos 2_000))) (lt_z (pos 2_000) N) h in
    record { least = lt_z_no (false_not n.0); most = lt_z_no (false_not n.1) }

-- its index, and the places by it
module _ {N : ℤ} (i : InYears N) where
  pub year_is : Is N (year_index N) 2_000
  year_is = is_from 2_000 i.least

  pub year_le : year_index N ≤ 4_000
  year_le = omega (arith, is_le year_is (is_pos 2_000) i.most)

  pub place_is : (e : ℕ) {d : ℤ} {j : ℕ} → Is d j 4 → Is (run_on_place e N d) (place_of e (year_index N) j) lift
  place_is e g = run_on_is year_is g e year_le
