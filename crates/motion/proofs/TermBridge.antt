-- Document 01's start, count and day of a term, what is gone on it and its step are the working forms', once each: the year
-- y = N + 2,000, the day j = d + 4, the mark lifted. Assumes nothing.
use mathlib.Core.Path.{◌≡◌, refl, ◌∙◌}
use Prim.Native.Nat.{ℕ, zero, suc, ◌+◌, ◌*◌, ◌-◌, ◌≤◌}
use native.Mathlib.Nat.{add-zero}
use native.Mathlib.Omega.{arith}
use lib.Dec.{ltb}
use lib.IntN.{ℤ, pos, nat_abs, ◌-ℤ◌}
use lib.Signed.{lt_z}
use Rattle.reasoning.proofs.Whole.{Is, is_pos, is_next, is_add, is_minus, is_abs, lt_z_is}
use Rattle.law.specs.Document.{daily_motion, epicycles, root, run_on_place, mark, start, count_from, count, term_day, gone_on, step_on}
use Rattle.law.proofs.Floor.{div_is}
use Rattle.motion.specs.Working.{root_of, lift, place_of, mark_of, start_of, count_from_of}
use Rattle.motion.proofs.Bridge.{root_is, run_on_is}
use Rattle.motion.proofs.Root.{root_of_le}
use Rattle.motion.proofs.Walk.{count_of, day_of, walk}

-- the walk, over any place that its working form lifts by s
pub count_from_is : (place : ℤ → ℤ) (placed : ℕ → ℕ) (m s : ℕ) → ((d : ℤ) (j : ℕ) → Is d j 4 → Is (place d) (placed j) s)
    → (left : ℕ) {d : ℤ} {j : ℕ} → Is d j 4 → count_from place (pos m) left d ≡ count_from_of placed (m + s) left j
unfolding count_from count_from_of
count_from_is place placed m s t zero g = refl
count_from_is place placed m s t (suc left) {d} {j} g =
    let i : lt_z (pos m) (place d) ≡ ltb (m + s) (placed j) = rw add-zero at (lt_z_is (is_pos m) (t d j g)) in
    rw (i, count_from_is place placed m s t left (is_next g)) refl

-- two numbers lifted alike
abs_apart : {x z : ℤ} {a b s : ℕ} → Is x a s → Is z b s → b ≤ a → nat_abs (x -ℤ z) ≡ a - b
abs_apart p q h = is_abs (is_minus p q) (omega arith) ∙ omega arith

module _ {N : ℤ} {y : ℕ} (h : Is N y 2_000) where
  pub start_is : (k : ℕ) → Is (start N k) (start_of y (mark_of k)) 4
  unfolding start start_of mark
  start_is k =
      let r = root_of_le y in
      let p : Is (mark k -ℤ pos (root N)) (mark_of k + 4 * daily_motion - root_of y) (4 * daily_motion) =
      omega (arith, is_minus (is_pos (mark_of k)) (is_pos (root N)), root_is h) in
      omega (arith, is_minus (div_is 4 daily_motion (omega arith) p) (is_pos 3))

  module _ (e : ℕ) (l : y ≤ 4_000) (k : ℕ) where
    pub count_is : count e N k ≡ count_of e y (mark_of k)
    unfolding count mark
    count_is =
        count_from_is (run_on_place e N) (place_of e y) (mark_of k) lift (λ (d : ℤ) (j : ℕ) (g : Is d j 4). run_on_is h g e l) 8 (start_is k)

    module _ (o : e ≤ epicycles) where
      pub term_day_is : Is (term_day e N k) (day_of e y (mark_of k)) 4
      unfolding term_day
      term_day_is =
          omega (arith, is_minus (is_add (start_is k) (is_pos (count e N k))) (is_pos 2), count_is, (walk e o y (mark_of k)).least)

      -- what is gone on that day, and its step
      pub gone_is : gone_on e N (mark k) (term_day e N k) ≡ mark_of k + lift - place_of e y (day_of e y (mark_of k))
      unfolding gone_on mark
      gone_is =
          let m : Is (mark k) (mark_of k + lift) lift = omega (arith, is_pos (mark_of k)) in
          abs_apart m (run_on_is h term_day_is e l) (walk e o y (mark_of k)).before

      pub step_is : step_on e N (term_day e N k) ≡ place_of e y (suc (day_of e y (mark_of k))) - place_of e y (day_of e y (mark_of k))
      unfolding step_on
      step_is =
          let w = walk e o y (mark_of k) in
          abs_apart (run_on_is h (is_next term_day_is) e l) (run_on_is h term_day_is e l) (omega (arith, w.before, w.after))
