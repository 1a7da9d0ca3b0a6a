-- In every year from -2,000 to 2,000, at any difference of the epicycles up to document 01's, each run-on place from day -3 to 370
-- is greater than that of the day before. Assumes nothing.
use Prim.Native.Nat.{ℕ, suc, ◌≤◌}
use native.Mathlib.Omega.{arith}
use lib.IntN.{ℤ, pos, neg_ℤ, nat_abs, ◌+ℤ◌, ◌-ℤ◌}
use lib.Signed.{◌≤ℤ◌, ◌<ℤ◌}
use Rattle.reasoning.proofs.Whole.{Is, is_pos, is_minus, is_from, lt_is}
use Rattle.law.specs.Document.{epicycles, run_on_place}
use Rattle.motion.proofs.DailyMotion.{place_next}
use Rattle.law.specs.Index.{year_index}
use Rattle.motion.proofs.Years.{InYears, place_is}

pub rises : (e : ℕ) → e ≤ epicycles → (N : ℤ) → InYears N
    → (d : ℤ) → neg_ℤ (pos 3) ≤ℤ d → d ≤ℤ pos 370 → run_on_place e N (d -ℤ pos 1) <ℤ run_on_place e N d
rises e o N i d a _ =
    let j = nat_abs (d +ℤ pos 3) in
    let t : Is d j 3 = is_from 3 a in
    let p : Is (d -ℤ pos 1) j 4 = omega (arith, is_minus t (is_pos 1)) in
    let q : Is d (suc j) 4 = omega arith in
    lt_is (place_is i e p) (place_is i e q) (omega (arith, place_next e o (year_index N) j))
