-- The places as answers, from their working forms: what the code has worked out is what the document answers. Assumes nothing.
use mathlib.Core.Bool.{Bool, true, false, cond}
use mathlib.Core.Path.{◌≡◌, refl, ap, ◌∙◌}
use Prim.Native.Nat.{ℕ, ◌+◌, ◌*◌, ◌-◌, ◌%◌}
use native.Mathlib.Omega.{arith}
use lib.Dec.{ltb}
use lib.IntN.{ℤ, pos, nat_abs, ◌+ℤ◌}
use Rattle.reasoning.proofs.Whole.{Is, is_pos, is_add, is_abs, same}
use Rattle.reasoning.proofs.Indexed.{Indexed, indexed}
use Rattle.law.specs.Round.{floor_mod}
use Rattle.reasoning.specs.Answer.{Answer, value, refused, refusing, part}
use Rattle.law.specs.Document.{circle, half, daily_motion, in_circle, anomaly, tangent, angle, run_on_place, bad_year, bad_day, off_table, mean_answer, true_answer, run_on_answer}
use Rattle.reasoning.proofs.Answers.{PassedAll, passed_all, passed_on}
use Rattle.law.proofs.Floor.{mod_is}
use Rattle.motion.specs.Working.{root_of, size_answer, added, taken, anomaly_of, headroom, lift, place_of, place_answer}
use Rattle.motion.proofs.Bridge.{anomaly_is, run_on_is, mean_in_circle}
use Rattle.sun.specs.Moved.{moved_by}
use Rattle.sun.specs.YearAndDay.{lifted_answer}

-- ---- the lifted place: the mean place moved by what is said of the size at the anomaly a

module _ (e y j : ℕ) {a mean : ℕ} {said : Answer ℕ} where
  pub place_moved : a ≡ anomaly_of y j → mean ≡ root_of y + headroom + j * daily_motion → said ≡ size_answer e a
      → part (moved_by mean a) said ≡ place_answer e y j
  unfolding size_answer place_answer place_of added taken moved_by
  place_moved h m s = rw (s, m, h) (go (off_table e (anomaly_of y j)) (ltb (anomaly_of y j) half))
    where
      lifted : ℕ
      lifted = root_of y + headroom + j * daily_motion

      size : ℕ
      size = angle (tangent e (anomaly_of y j))

      go : (off below : Bool) → part (λ (n : ℕ). cond below (lifted + n) (lifted - n)) (refusing off 5 (value size))
          ≡ refusing off 5 (value (lifted + cond below size 0 - cond below 0 size))
      go true below = refl
      go false true = ap value (omega arith)
      go false false = ap value (omega arith)

pub place_refused : (e y j : ℕ) {a k : ℕ} → a ≡ anomaly_of y j → refused k ≡ size_answer e a → refused k ≡ place_answer e y j
place_refused e y j h s = place_moved e y j {mean = root_of y + headroom + j * daily_motion} h refl s

-- ---- the document's answers, for a year and a day in range

module _ (N d : ℤ) {y j : ℕ} (n : Indexed 2_000 2_000 N y) (m : Indexed 4 370 d j) where
  pub mean_value : value ((root_of y + j * daily_motion + (circle - 4 * daily_motion)) % circle) ≡ mean_answer N d
  unfolding mean_answer
  mean_value = rw (n.test, m.test, mean_in_circle n.is m.is) refl

  pub lifted_place : (e : ℕ) → place_answer e y j ≡ lifted_answer e N d
  unfolding place_answer lifted_answer
  lifted_place e =
      let p : Is (run_on_place e N d +ℤ pos lift) (place_of e y j) 0 = omega (arith, is_add (run_on_is n.is m.is e n.most) (is_pos lift)) in
      let i : nat_abs (run_on_place e N d +ℤ pos lift) ≡ place_of e y j = is_abs p (omega arith) ∙ omega arith in
      rw (n.test, m.test, anomaly_is n.is m.is n.most, i) refl

-- from the lifted place to the two that are public
module _ (e : ℕ) (N d : ℤ) (p : ℕ) where
  lifted : value p ≡ lifted_answer e N d → PassedAll (bad_year N) (bad_day d) (off_table e (anomaly N d)) p (nat_abs (run_on_place e N d +ℤ pos lift))
  unfolding lifted_answer
  lifted s = passed_all 1 2 5 (nat_abs (run_on_place e N d +ℤ pos lift)) (bad_year N) (bad_day d) (off_table e (anomaly N d)) s

  lifted_is : value p ≡ lifted_answer e N d → Is (run_on_place e N d) p lift
  lifted_is s =
      let w = lifted s in
      let n = indexed 2_000 2_000 N (nat_abs (N +ℤ pos 2_000)) w.first refl in
      let m = indexed 4 370 d (nat_abs (d +ℤ pos 4)) w.second refl in
      let i = run_on_is n.is m.is e n.most in
      let a = is_add i (is_pos lift) in
      omega (arith, is_abs a (omega arith), w.is)

  pub true_value : value p ≡ lifted_answer e N d → value ((p + (circle - lift)) % circle) ≡ true_answer e N d
  unfolding true_answer in_circle
  true_value s =
      let w = lifted s in
      let i : floor_mod (run_on_place e N d) circle ≡ (p + (circle - lift)) % circle = mod_is 1 circle (omega arith) (omega (arith, lifted_is s)) in
      rw (w.first, w.second, w.third, i) refl

  pub run_on_value : (z : ℤ) → value p ≡ lifted_answer e N d → Is z p lift → value z ≡ run_on_answer e N d
  unfolding run_on_answer
  run_on_value z s r =
      let w = lifted s in
      rw (w.first, w.second, w.third) (ap value (same r (lifted_is s) (omega arith)))

  pub true_refused : refused p ≡ lifted_answer e N d → refused p ≡ true_answer e N d
  unfolding lifted_answer true_answer
  true_refused s =
      passed_on 1 2 5 (nat_abs (run_on_place e N d +ℤ pos lift)) (in_circle (run_on_place e N d)) (bad_year N) (bad_day d) (off_table e (anomaly N d)) s

  pub run_on_refused : refused p ≡ lifted_answer e N d → refused p ≡ run_on_answer e N d
  unfolding lifted_answer run_on_answer
  run_on_refused s =
      passed_on 1 2 5 (nat_abs (run_on_place e N d +ℤ pos lift)) (run_on_place e N d) (bad_year N) (bad_day d) (off_table e (anomaly N d)) s
