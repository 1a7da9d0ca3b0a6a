-- In every year from -2,000 to 2,000, at any difference of the epicycles up to document 01's, for each of the 24 terms exactly one
-- day d from -4 to 369 has the run-on place at d ≤ mark < that at d + 1, and it is the term's day. Assumes nothing.
use mathlib.Core.Path.{◌≡◌, ap}
use Prim.Native.Nat.{ℕ, ◌+◌, ◌≤◌, ◌<◌}
use native.Mathlib.Omega.{arith}
use lib.IntN.{ℤ, pos, neg_ℤ, nat_abs, ◌+ℤ◌}
use lib.Signed.{◌≤ℤ◌}
use Rattle.reasoning.proofs.Whole.{is_pos, is_neg, is_next, is_from, same, is_le, is_lt, le_is, lt_is}
use Rattle.law.specs.Document.{epicycles, mark, term_day}
use Rattle.motion.specs.Working.{lift, mark_of}
use Rattle.motion.proofs.Walk.{day_of, start_le, walk, one_day}
use Rattle.motion.proofs.TermBridge.{term_day_is}
use Rattle.law.specs.Index.{year_index}
use Rattle.motion.proofs.Years.{InYears, Holds, year_is, year_le, place_is}

-- d has the mark m, and is the only day from -4 to 369 that has
pub record OnlyDay (e : ℕ) (N m d : ℤ) : Type 0 where
  pub least : neg_ℤ (pos 4) ≤ℤ d
  pub most : d ≤ℤ pos 369
  pub holds : Holds e N m d
  pub only : (f : ℤ) → neg_ℤ (pos 4) ≤ℤ f → f ≤ℤ pos 369 → Holds e N m f → f ≡ d

pub term_day_lem : (e : ℕ) → e ≤ epicycles → (N : ℤ) → InYears N → (k : ℕ) → k < 24 → OnlyDay e N (mark k) (term_day e N k)
unfolding mark
term_day_lem e o N i k h =
    let g = term_day_is (year_is i) e (year_le i) k o in
    let w = walk e o (year_index N) (mark_of k) in
    let m = is_pos (mark_of k) in
    record {
      least = le_is (is_neg (is_pos 4)) g (omega arith);
      most = le_is g (is_pos 369) (omega (arith, start_le (year_index N) k h, w.most));
      holds = record {
        before = le_is (place_is i e g) m (omega (arith, w.before));
        after = lt_is m (place_is i e (is_next g)) (omega (arith, w.after));
      };
      only = λ (f : ℤ) (a : neg_ℤ (pos 4) ≤ℤ f) (_ : f ≤ℤ pos 369) (q : Holds e N (mark k) f).
          let t = is_from 4 a in
          same t g (ap (λ (x : ℕ). x + 4) (one_day e o (year_index N) (mark_of k + lift) (nat_abs (f +ℤ pos 4)) (day_of e (year_index N) (mark_of k))
          (omega (arith, is_le (place_is i e t) m q.before))
          (omega (arith, is_lt m (place_is i e (is_next t)) q.after))
          w.before w.after));
    }
