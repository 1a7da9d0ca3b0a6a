-- A local time is counted in clock seconds from the midnight of day -5 on: one day before the least day that is given, so that
-- none is below 0. Five days less, cut off to minutes and carried, it is the document's; its answer by cases; and the days that it
-- reaches. Assumes nothing.
use mathlib.Core.Path.{◌≡◌, refl, ap, sym, subst, ◌∙◌}
use mathlib.Core.Bool.{Bool, true, false, not, ◌||◌}
use Prim.Native.Nat.{ℕ, zero, suc, ◌+◌, ◌*◌, ◌-◌, ◌/◌, ◌%◌, ◌≤◌, ◌<◌}
use native.Mathlib.Omega.{arith}
use borrow.Author.Tests.{lt-ltb, le-ltb}
use lib.Dec.{T, nltb→le}
use lib.IntN.{ℤ, pos, negsuc, neg_ℤ, nat_abs, ◌+ℤ◌, ◌-ℤ◌}
use lib.Signed.{◌≤ℤ◌}
use Rattle.reasoning.proofs.Whole.{Is, up, down, is_own, is_pos, is_neg, is_add, is_minus, is_times, same, le_is}
use Rattle.reasoning.proofs.Indexed.{Indexed, indexed}
use Rattle.reasoning.specs.Answer.{value, refused, refusing}
use Rattle.law.specs.Document.{clock_of_arc, local_minutes, local_day, local_minute, bad_day, bad_minute, bad_longitude, LocalValues, local_answer}
use Rattle.reasoning.proofs.Answers.{same_value, never, stopped}
use Rattle.law.proofs.Floor.{div_is, mod_is, floor_less}
use Rattle.units.specs.IndexAnswers.{day_index_answer}
use mir.Syntax.{w64}
use mir.Val.{SFits}
use mir.Facts.{to_z-of_z}
use Rattle.units.proofs.Machine.{read}
use Rattle.units.proofs.IndexAnswers.{day_in}
use Rattle.units.proofs.Clock.{clock_east, clock_west}

-- ---- the shift

size_west : (n : ℕ) → nat_abs (neg_ℤ (pos n)) ≡ n
size_west zero = refl
size_west (suc n) = refl

-- a longitude that is not refused shifts by half a day at most
pub half_a_day : (arc : ℤ) → bad_longitude arc ≡ false → nat_abs (clock_of_arc arc) ≤ 43_200
unfolding up down
half_a_day (pos n) e =
    omega (arith, ap nat_abs (clock_east n), indexed 648_000 648_000 (pos n) (nat_abs (pos n +ℤ pos 648_000)) e refl)
half_a_day (negsuc n) e =
    omega (arith, ap nat_abs (clock_west n), size_west ((suc n + 7) / 15), indexed 648_000 648_000 (negsuc n) (nat_abs (negsuc n +ℤ pos 648_000)) e refl)

-- ---- day and minute: t is the clock seconds there

module _ (d : ℤ) (m : ℕ) (arc : ℤ) (j t : ℕ) (i : Is d j 4) (e : pos t ≡ pos (j * 86_400 + m * 60 + 86_400) +ℤ clock_of_arc arc) where
  shift : t + down (clock_of_arc arc) ≡ j * 86_400 + m * 60 + 86_400 + up (clock_of_arc arc)
  unfolding up down
  shift =
      let p : Is (pos t) (j * 86_400 + m * 60 + 86_400 + up (clock_of_arc arc)) (0 + down (clock_of_arc arc)) =
      subst (λ (z : ℤ). Is z (j * 86_400 + m * 60 + 86_400 + up (clock_of_arc arc)) (0 + down (clock_of_arc arc))) (sym e) (is_add (is_pos (j * 86_400 + m * 60 + 86_400)) (is_own (clock_of_arc arc))) in
      omega arith

  minutes_is : Is (local_minutes d m arc) (t / 60) (5 * 1_440)
  unfolding local_minutes
  minutes_is =
      div_is (5 * 1_440) 60 (omega arith) (omega (arith, shift, is_add (is_times 60 (is_add (is_times 1_440 i) (is_pos m))) (is_own (clock_of_arc arc))))

  local_day_is : local_day d m arc ≡ pos (t / 86_400) -ℤ pos 5
  unfolding local_day
  local_day_is = same (div_is 5 1_440 (omega arith) minutes_is) (is_minus (is_pos (t / 86_400)) (is_pos 5)) (omega arith)

  local_minute_is : local_minute d m arc ≡ t / 60 % 1_440
  unfolding local_minute
  local_minute_is = mod_is 5 1_440 (omega arith) minutes_is

-- ---- the answer

-- a day that was not indexed: what refused it is the document's refusal
pub local_bad_day : (d : ℤ) (m : ℕ) (arc : ℤ) {k : ℕ} → SFits w64 d → refused k ≡ day_index_answer (read w64 d) → refused k ≡ local_answer d m arc
unfolding day_index_answer local_answer
local_bad_day d m arc f e =
    let s = stopped (bad_day d) 2 (nat_abs (d +ℤ pos 4)) (e ∙ ap day_index_answer (to_z-of_z f)) in
    rw s.test (ap refused s.is)

module _ (d : ℤ) (m : ℕ) (arc : ℤ) {j : ℕ} (i : Indexed 4 370 d j) where
  pub local_bad_minute : 1_439 < m → refused 2 ≡ local_answer d m arc
  unfolding local_answer
  local_bad_minute b = rw (i.test, lt-ltb _ _ b) refl

  pub local_bad_longitude : m ≤ 1_439 → bad_longitude arc ≡ true → refused 4 ≡ local_answer d m arc
  unfolding local_answer
  local_bad_longitude g b = rw (i.test, le-ltb _ _ g, b) refl

  pub local_is : (t : ℕ) {day : ℤ} → m ≤ 1_439 → bad_longitude arc ≡ false
      → pos t ≡ pos (j * 86_400 + m * 60 + 86_400) +ℤ clock_of_arc arc → day ≡ pos (t / 86_400) -ℤ pos 5
      → value (record { day_there = day; minute_there = t / 60 % 1_440 }) ≡ local_answer d m arc
  unfolding local_answer
  local_is t g h e f = rw (i.test, le-ltb _ _ g, h, local_day_is d m arc j t i.is e, local_minute_is d m arc j t i.is e, f) refl

-- a day that was indexed, and a minute past the day's last: j is what was said of the machine's reading of the day
pub local_late_minute : (d : ℤ) (m : ℕ) (arc : ℤ) {j : ℕ} → SFits w64 d → value j ≡ day_index_answer (read w64 d) → 1_439 < m → refused 2 ≡ local_answer d m arc
local_late_minute d m arc f e h = local_bad_minute d m arc (day_in d (e ∙ ap day_index_answer (to_z-of_z f))) h

-- ---- every day that is answered
size_most : (z : ℤ) → (up z ≤ nat_abs z) × (down z ≤ nat_abs z)
unfolding up down
size_most (pos n) = (omega arith, omega arith)
size_most (negsuc n) = (omega arith, omega arith)

-- the shift is at most half a day either way, so what is reached is from 0 to 376 days after the midnight of day -5
module _ (d : ℤ) (m : ℕ) (arc : ℤ) {j : ℕ} (i : Indexed 4 370 d j) (g : m ≤ 1_439) (b : bad_longitude arc ≡ false) where
  days_after : Is (local_day d m arc) ((j * 86_400 + m * 60 + 86_400 + up (clock_of_arc arc) - down (clock_of_arc arc)) / 60 / 1_440) 5
  unfolding local_day local_minutes
  days_after =
      let u = size_most (clock_of_arc arc) in
      let h = half_a_day arc b in
      div_is 5 1_440 (omega arith) (div_is (5 * 1_440) 60 (omega arith)
      (omega (arith, is_add (is_times 60 (is_add (is_times 1_440 i.is) (is_pos m))) (is_own (clock_of_arc arc)))))

  day_between : (neg_ℤ (pos 5) ≤ℤ local_day d m arc) × (local_day d m arc ≤ℤ pos 371)
  day_between =
      let u = size_most (clock_of_arc arc) in
      let h = half_a_day arc b in
      let l = i.most in (
        le_is (is_neg (is_pos 5)) days_after (omega arith),
        le_is days_after (is_pos 371) (omega arith),
      )

-- "A day so reached may be -5 or 371": no other beyond -4 and 370 is reached. WorkedEdges reaches both
pub record DayReached (v : LocalValues) : Type 0 where
  pub least : neg_ℤ (pos 5) ≤ℤ v.day_there
  pub most : v.day_there ≤ℤ pos 371
  pub minute : v.minute_there < 1_440

pub local_days : (d : ℤ) (m : ℕ) (arc : ℤ) {v : LocalValues} → value v ≡ local_answer d m arc → DayReached v
unfolding local_answer local_minute
local_days d m arc {v} e = go (bad_day d) (bad_minute m) (bad_longitude arc) refl refl refl e
  where
    there : LocalValues
    there = record { day_there = local_day d m arc; minute_there = local_minute d m arc }

    go : (a b c : Bool) → bad_day d ≡ a → bad_minute m ≡ b → bad_longitude arc ≡ c
        → value v ≡ refusing (a || b) 2 (refusing c 4 (value there)) → DayReached v
    go true b c p q r f = absurd (never (sym f))
    go false true c p q r f = absurd (never (sym f))
    go false false true p q r f = absurd (never (sym f))
    go false false false p q r f =
        let i = indexed 4 370 d (nat_abs (d +ℤ pos 4)) p refl in
        let b = day_between d m arc i (nltb→le 1_439 m (subst (λ (t : Bool). T (not t)) (sym q) tt)) r in
        let n = floor_less (local_minutes d m arc) 1_440 (omega arith) in
        subst DayReached (sym (same_value f)) (record { least = b.0; most = b.1; minute = n })
