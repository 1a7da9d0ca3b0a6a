-- In every year from -2,000 to 2,000, at any difference of the epicycles up to document 01's, a term's count is the number of
-- midnights in a row from the start to the first one past the mark, two at least and eight at most: so the eight never run out short
-- of the mark. Assumes nothing.
use mathlib.Core.Path.{◌≡◌}
use Prim.Native.Nat.{ℕ, suc, ◌+◌, ◌≤◌, ◌<◌}
use native.Mathlib.Omega.{arith}
use lib.IntN.{ℤ, pos, ◌+ℤ◌}
use lib.Signed.{◌≤ℤ◌, ◌<ℤ◌}
use Rattle.reasoning.proofs.Whole.{is_pos, is_add, le_is, lt_is}
use Rattle.law.specs.Document.{epicycles, run_on_place, mark, start, count}
use Rattle.motion.specs.Working.{mark_of, start_of}
use Rattle.motion.proofs.Walk.{count_of, day_of, walk, places_gain}
use Rattle.motion.proofs.TermBridge.{start_is, count_is}
use Rattle.law.specs.Index.{year_index}
use Rattle.motion.proofs.Years.{InYears, year_is, year_le, place_is}

-- of the midnights visited, the start and those after it, all but the last are not past the mark, and the last one is
pub record ToTheMark (e : ℕ) (N : ℤ) (k : ℕ) : Type 0 where
  pub least : 2 ≤ count e N k
  pub most : count e N k ≤ 8
  pub before : (i : ℕ) → i + 1 < count e N k → run_on_place e N (start N k +ℤ pos i) ≤ℤ mark k
  pub past : (i : ℕ) → i + 1 ≡ count e N k → mark k <ℤ run_on_place e N (start N k +ℤ pos i)

pub few_midnights : (e : ℕ) → e ≤ epicycles → (N : ℤ) → InYears N → (k : ℕ) → ToTheMark e N k
unfolding mark
few_midnights e o N r k =
    let y = year_index N in
    let c : count e N k ≡ count_of e y (mark_of k) = count_is (year_is r) e (year_le r) k in
    let w = walk e o y (mark_of k) in
    let s = start_is (year_is r) k in
    record {
      least = omega (arith, w.least);
      most = omega (arith, w.most);
      before = λ (i : ℕ) (h : i + 1 < count e N k).
          le_is (place_is r e {j = start_of y (mark_of k) + i} (omega (arith, is_add s (is_pos i)))) (is_pos (mark_of k))
          (omega (arith, w.before, places_gain e o y (start_of y (mark_of k) + i) (day_of e y (mark_of k)) (omega arith)));
      past = λ (i : ℕ) (h : i + 1 ≡ count e N k).
          lt_is (is_pos (mark_of k)) (place_is r e {j = suc (day_of e y (mark_of k))} (omega (arith, is_add s (is_pos i), w.least)))
          (omega (arith, w.after));
    }
