-- One midnight of a walk: the first one past the mark ends it, any other leaves it one further with one fewer left; and what the
-- code of the walk asks at each, over the places of a year. Assumes nothing.
use mathlib.Core.Path.{◌≡◌, refl, ap, ◌∙◌, subst}
use Prim.Native.Nat.{ℕ, suc, ◌+◌, ◌*◌, ◌-◌, ◌/◌, ◌≤◌, ◌<◌}
use native.Mathlib.Decide.{dec_lt}
use native.Mathlib.Omega.{arith}
use borrow.Author.Tests.{lt-ltb, le-ltb}
use Rattle.reasoning.specs.Answer.{value, refused}
use Rattle.law.specs.Document.{second, degree, daily_motion, epicycles, off_table}
use Rattle.reasoning.proofs.Answers.{passed, stopped}
use Rattle.motion.specs.Working.{root_of, anomaly_of, lift, place_of, place_answer, mark_of, start_of, count_from_of, Find, find_from, find_of}
use Rattle.motion.proofs.DailyMotion.{place_next}
use Rattle.motion.proofs.Walk.{start_le, start_before, start_after}
use Rattle.motion.proofs.NeverOffTable.{never_off_table}

-- ---- any places

module _ (place : ℕ → ℕ) (mark left j count : ℕ) where
  -- before is the place of the midnight before j
  find_here : (before : ℕ) → 0 < j → mark < place j → before ≡ place (j - 1)
      → record { day_found = j - 1; gone_found = mark - before; step_found = place j - before; count_found = count + 1 } ≡ find_from place mark (suc left) j count
  unfolding find_from count_from_of
  find_here before p h e =
      let i : j + 1 - 2 ≡ j - 1 = omega arith in
      let n : suc (j - 1) ≡ j = omega arith in
      rw (lt-ltb _ _ h, i, n, e) refl

  find_further : place j ≤ mark → find_from place mark left (suc j) (count + 1) ≡ find_from place mark (suc left) j count
  unfolding find_from count_from_of
  find_further h = rw (le-ltb _ _ h) (go (count_from_of place mark left (suc j)))
    where
      at : ℕ → ℕ → Find
      at n s = record { day_found = n; gone_found = mark - place n; step_found = place (suc n) - place n; count_found = s }

      go : (c : ℕ) → at (suc j + c - 2) (count + 1 + c) ≡ at (j + suc c - 2) (count + suc c)
      go c =
          let i : suc j + c - 2 ≡ j + suc c - 2 = omega arith in
          let s : count + 1 + c ≡ count + suc c = omega arith in
          rw (i, s) refl

-- ---- the places of a year

-- the lifted place is never refused
pub place_known : (y j : ℕ) {p : ℕ} → value p ≡ place_answer epicycles y j → p ≡ place_of epicycles y j
unfolding place_answer
place_known y j s = (passed (off_table epicycles (anomaly_of y j)) 5 (place_of epicycles y j) s).is

pub place_given : (y j : ℕ) {k : ℕ} → refused k ≡ place_answer epicycles y j → ⊥
unfolding place_answer
place_given y j s =
    let t = (stopped (off_table epicycles (anomaly_of y j)) 5 (place_of epicycles y j) s).test in
    let f = never_off_table epicycles (omega arith) (anomaly_of y j) in
    let z : ◌≡◌ {A = ℕ} 0 1 = cc in omega arith

-- what a walk knows at the midnight j, p being its place
module _ (y mark left j before count p : ℕ) (e : p ≡ place_of epicycles y j) (l : 0 < left) (b : before ≤ mark)
    (h : mark < place_of epicycles y j → (0 < j) × (before ≡ place_of epicycles y (j - 1))) where
  -- past the mark
  pub record Here : Type 0 where
    pub first : 0 < j
    pub rises : before < p
    pub near : p ≤ before + 3_679 * second
    pub is : record { day_found = j - 1; gone_found = mark - before; step_found = p - before; count_found = count + 1 } ≡ find_from (place_of epicycles y) mark left j count

  pub here : mark < p → Here
  here g =
      let w = h (omega arith) in
      let n : suc (j - 1) ≡ j = omega (arith, w.0) in
      let s : suc (left - 1) ≡ left = omega arith in
      let gain = place_next epicycles (omega arith) y (j - 1) in
      record {
        first = w.0;
        rises = omega arith;
        near = omega (arith, ap (place_of epicycles y) n, w.1);
        is = rw (e, ← s) (find_here (place_of epicycles y) mark (left - 1) j count before w.0 (omega arith) w.1);
      }

  -- not past it
  pub record On : Type 0 where
    pub more : 1 < left
    pub past : mark < place_of epicycles y (j + 1 + (left - 1) - 1)
    pub own : mark < place_of epicycles y (j + 1) → (0 < j + 1) × (p ≡ place_of epicycles y (j + 1 - 1))
    pub is : find_from (place_of epicycles y) mark (left - 1) (j + 1) (count + 1) ≡ find_from (place_of epicycles y) mark left j count

  pub on : mark < place_of epicycles y (j + left - 1) → p ≤ mark → On
  on m g =
      let s : suc (left - 1) ≡ left = omega arith in
      let i : j + 1 ≡ suc j = omega arith in
      let same : j + 1 + (left - 1) - 1 ≡ j + left - 1 = omega arith in
      let back : j ≡ j + 1 - 1 = omega arith in
      record {
        more = enough (dec_lt 1 left);
        past = omega (arith, ap (place_of epicycles y) same);
        own = λ _. (omega arith, e ∙ ap (place_of epicycles y) back);
        is = rw i
            (subst (λ (n : ℕ). find_from (place_of epicycles y) mark (left - 1) (suc j) (count + 1) ≡ find_from (place_of epicycles y) mark n j count) s
            (find_further (place_of epicycles y) mark (left - 1) j count (omega arith)));
      }
    where
      enough : Dec (1 < left) → 1 < left
      enough (yes k) = k
      enough (no k) = let last : j + left - 1 ≡ j = omega arith in absurd (omega (arith, ap (place_of epicycles y) last))

-- ---- where a search begins: m is the term's mark, worked out anew, and start its start

pub record Begins (y k m start : ℕ) : Type 0 where
  pub days : start + 8 ≤ 375
  pub reached : m + lift < place_of epicycles y (start + 8 - 1)
  pub known : m + lift < place_of epicycles y start → (0 < start) × (0 ≡ place_of epicycles y (start - 1))
  pub is : find_from (place_of epicycles y) (m + lift) 8 start 0 ≡ find_of epicycles y k

begins_at_start : (y k : ℕ) → k ≤ 23 → Begins y k (mark_of k) (start_of y (mark_of k))
unfolding find_of
begins_at_start y k h =
    let s = start_of y (mark_of k) in
    let before = start_before epicycles (omega arith) y (mark_of k) in
    let e : s + 8 - 1 ≡ s + 7 = omega arith in
    record {
      days = omega (arith, start_le y k (omega arith));
      reached = omega (arith, start_after epicycles (omega arith) y (mark_of k), ap (place_of epicycles y) e);
      known = λ (l : mark_of k + lift < place_of epicycles y s). absurd (omega arith);
      is = refl;
    }

pub begins : (y k root : ℕ) → k ≤ 23 → root ≡ root_of y
    → Begins y k (k * (15 * degree)) ((k * (15 * degree) + 4 * daily_motion - root) / daily_motion - 3)
unfolding start_of
begins y k root h r =
    let m : mark_of k ≡ k * (15 * degree) = omega arith in
    let s : start_of y (mark_of k) ≡ (k * (15 * degree) + 4 * daily_motion - root) / daily_motion - 3 = rw (m, r) refl in
    subst (Begins y k (k * (15 * degree))) s (subst (λ (n : ℕ). Begins y k n (start_of y (mark_of k))) m (begins_at_start y k h))
