-- The angle as an answer: where in the table its tangent lies, and the angle there. Assumes nothing.
use mathlib.Core.Path.{◌≡◌, refl, ap}
use Prim.Native.Nat.{ℕ, ◌+◌, ◌*◌, ◌-◌, ◌/◌, ◌≤◌, ◌<◌}
use native.Mathlib.Decide.{dec_lt}
use native.Mathlib.Omega.{arith}
use borrow.Author.Tests.{lt-ltb, le-ltb}
use Rattle.law.specs.Entry.{last_tangent, tangent_entry}
use Rattle.reasoning.specs.Answer.{value, refused}
use Rattle.law.specs.Document.{minute, angle_past}
use Rattle.law.proofs.Rules.{tangent_run, tangent_range}
use Rattle.law.proofs.Angles.{angle_at, angle_end}
use Rattle.motion.specs.Working.{angle_answer}

-- steps of 2,908 to 2,914 put the minute at t / 2,914, or one further
pub record Seat (t q : ℕ) : Type 0 where
  pub small : q < last_tangent
  pub reached : tangent_entry q ≤ t
  pub next : tangent_entry (q + 1) ≤ t → (q + 1 < last_tangent) × (t < tangent_entry (q + 2))

pub seat : (t : ℕ) → t < tangent_entry last_tangent → Seat t (t / 2_914)
seat t h =
    let q = t / 2_914 in
    let small : q < last_tangent = omega (arith, tangent_range last_tangent (omega arith)) in
    record { small = small; reached = omega (arith, tangent_range q (omega arith)); next = further q small refl }
  where
    further : (q : ℕ) → q < last_tangent → q ≡ t / 2_914 → tangent_entry (q + 1) ≤ t → (q + 1 < last_tangent) × (t < tangent_entry (q + 2))
    further q s e l = go (dec_lt (q + 1) last_tangent)
      where
        go : Dec (q + 1 < last_tangent) → (q + 1 < last_tangent) × (t < tangent_entry (q + 2))
        go (yes i) = (i, omega (arith, tangent_range (q + 2) (omega arith)))
        go (no i) = let j : q + 1 ≡ last_tangent = omega arith in absurd (omega (arith, ap tangent_entry j))

pub angle_refused : (t : ℕ) → tangent_entry last_tangent < t → refused 5 ≡ angle_answer t
unfolding angle_answer
angle_refused t h = rw (lt-ltb _ _ h) refl

pub angle_last : (t : ℕ) → t ≡ tangent_entry last_tangent → value (last_tangent * minute) ≡ angle_answer t
unfolding angle_answer
angle_last t e =
    let h : t ≤ tangent_entry last_tangent = omega arith in
    rw (le-ltb _ _ h, angle_end t (omega arith)) refl

pub angle_inside : (t m below above : ℕ) → m < last_tangent → below ≡ tangent_entry m → above ≡ tangent_entry (m + 1) → below ≤ t → t < above
    → value (m * minute + (t - below) * minute / (above - below)) ≡ angle_answer t
unfolding angle_answer angle_past
angle_inside t m below above l p q h g =
    let e : m + 1 + (last_tangent - (m + 1)) ≡ last_tangent = omega arith in
    let i : t ≤ tangent_entry last_tangent = omega (arith, tangent_run (last_tangent - (m + 1)) (m + 1) (omega arith), ap tangent_entry e) in
    rw (le-ltb _ _ i, angle_at t m l (omega arith) (omega arith), p, q) refl
