-- What is printed of a term (document 02, K2), in every year from -2,000 to 2,000, at any difference of the epicycles up to document
-- 01's: the minute is at most 1,439; the day is demand 3's day, or the next with minute 0, and the latter exactly when the rounded
-- minute is 1,440; the rounded minute is the one nearest to the crossing, so the minute cut off or the next. Assumes nothing.
use mathlib.Core.Path.{◌≡◌, refl, sym, ◌∙◌, subst}
use Prim.Native.Nat.{ℕ, suc, ◌+◌, ◌*◌, ◌/◌, ◌≤◌, ◌<◌}
use native.Mathlib.Nat.{div-lt_iff_lt-mul, le-div_iff_mul-le, div-mul-le_self, lt-div-mul-add}
use native.Mathlib.Decide.{dec_lt}
use native.Mathlib.Omega.{arith}
use borrow.Author.Tests.{eq-eqb, ne_eqb}
use lib.IntN.{ℤ, pos, neg_ℤ, ◌+ℤ◌}
use lib.Signed.{◌≤ℤ◌}
use Rattle.reasoning.proofs.Whole.{Is, up, down, is_pos, is_neg, is_next, is_own, is_le, le_is}
use Rattle.law.specs.Index.{year_index}
use Rattle.law.specs.Round.{half_up}
use Rattle.law.specs.Document.{epicycles, mark, term_day, gone_on, step_on, cut_off, cut_minute, rounded, rounded_minute, carried_minute, carried_day, printed_day, printed_minute}
use Rattle.motion.specs.Working.{mark_of}
use Rattle.motion.proofs.HalfUp.{half_up_bounds}
use Rattle.motion.proofs.OneDay.{term_day_lem}
use Rattle.motion.proofs.TermBridge.{gone_is, step_is}
use Rattle.motion.proofs.Walk.{walk}
use Rattle.motion.proofs.Years.{InYears, year_is, year_le}

-- ---- a part of a day's step, in minutes

module _ (gone step : ℕ) (h : gone < step) where
  cut_less : cut_off gone step < 1_440
  cut_less = (div-lt_iff_lt-mul {k = step} {x = 1_440 * gone} {y = 1_440} (omega arith)).1 (omega arith)

  rounded_less : rounded gone step < 1_441
  unfolding half_up
  rounded_less = (div-lt_iff_lt-mul {k = 2 * step} {x = 2 * (1_440 * gone) + step} {y = 1_441} (omega arith)).1 (omega arith)

  cut_or_next : (cut_off gone step ≤ rounded gone step) × (rounded gone step < cut_off gone step + 2)
  unfolding half_up
  cut_or_next =
      let below = div-mul-le_self (1_440 * gone) step in
      let above = lt-div-mul-add {a = 1_440 * gone} {b = step} (omega arith) in
      let q = 1_440 * gone / step in (
        (le-div_iff_mul-le {k = 2 * step} {x = q} {y = 2 * (1_440 * gone) + step} (omega arith)).1 (omega arith),
        (div-lt_iff_lt-mul {k = 2 * step} {x = 2 * (1_440 * gone) + step} {y = q + 2} (omega arith)).1 (omega arith),
      )

-- ---- the terms

module _ (e : ℕ) (o : e ≤ epicycles) (N : ℤ) (i : InYears N) (k : ℕ) where
  gone_less : gone_on e N (mark k) (term_day e N k) < step_on e N (term_day e N k)
  gone_less =
      let w = walk e o (year_index N) (mark_of k) in
      rw (gone_is (year_is i) e (year_le i) k o, step_is (year_is i) e (year_le i) k o) (omega (arith, w.before, w.after))

  pub cut_minute_le : cut_minute e N k ≤ 1_439
  unfolding cut_minute
  cut_minute_le = omega (arith, cut_less _ _ gone_less)

  pub rounded_minute_le : rounded_minute e N k ≤ 1_440
  unfolding rounded_minute
  rounded_minute_le = omega (arith, rounded_less _ _ gone_less)

  -- it is at most half a minute past the crossing, and less than half a minute before it: both in minutes times twice the step
  pub nearest_minute : (rounded_minute e N k * (2 * step_on e N (term_day e N k)) ≤ 2 * (1_440 * gone_on e N (mark k) (term_day e N k)) + step_on e N (term_day e N k))
      × (2 * (1_440 * gone_on e N (mark k) (term_day e N k)) + step_on e N (term_day e N k) < rounded_minute e N k * (2 * step_on e N (term_day e N k)) + 2 * step_on e N (term_day e N k))
  unfolding rounded_minute
  nearest_minute = half_up_bounds (1_440 * gone_on e N (mark k) (term_day e N k)) (step_on e N (term_day e N k)) (omega (arith, gone_less))

  pub cut_minute_or_next : (cut_minute e N k ≤ rounded_minute e N k) × (rounded_minute e N k ≤ cut_minute e N k + 1)
  unfolding cut_minute rounded_minute
  cut_minute_or_next = let c = cut_or_next _ _ gone_less in (c.0, omega arith)

-- demand 3's day, with the rounded minute; or the next, with minute 0
pub data PrintedOn (e : ℕ) (N : ℤ) (k : ℕ) : Type 0 where
  the_day : rounded_minute e N k ≤ 1_439 → printed_day e N k ≡ term_day e N k → printed_minute e N k ≡ rounded_minute e N k → PrintedOn e N k
  the_next : rounded_minute e N k ≡ 1_440 → printed_day e N k ≡ term_day e N k +ℤ pos 1 → printed_minute e N k ≡ 0 → PrintedOn e N k

module _ (e : ℕ) (o : e ≤ epicycles) (N : ℤ) (i : InYears N) (k : ℕ) where
  pub printed : PrintedOn e N k
  unfolding printed_day printed_minute carried_day carried_minute
  printed = go (dec_lt (rounded_minute e N k) 1_440)
    where
      go : Dec (rounded_minute e N k < 1_440) → PrintedOn e N k
      go (yes h) =
          let other = ne_eqb (rounded_minute e N k) 1_440 (λ q. omega arith) in
          the_day (omega arith) (rw other refl) (rw other refl)
      go (no h) =
          let r : rounded_minute e N k ≡ 1_440 = omega (arith, rounded_minute_le e o N i k) in
          the_next r (rw (eq-eqb _ _ r) refl) (rw (eq-eqb _ _ r) refl)

  pub printed_minute_le : printed_minute e N k ≤ 1_439
  printed_minute_le = go printed
    where
      go : PrintedOn e N k → printed_minute e N k ≤ 1_439
      go (the_day l d m) = omega arith
      go (the_next l d m) = omega arith

  -- the next day is printed exactly when the rounded minute is 1,440
  pub next_then_1440 : printed_day e N k ≡ term_day e N k +ℤ pos 1 → rounded_minute e N k ≡ 1_440
  next_then_1440 n = go printed
    where
      go : PrintedOn e N k → rounded_minute e N k ≡ 1_440
      go (the_day l d m) =
          let own = is_own (term_day e N k) in
          let next : Is (term_day e N k) (suc (up (term_day e N k))) (down (term_day e N k)) =
          subst (λ (z : ℤ). Is z (suc (up (term_day e N k))) (down (term_day e N k))) (sym n ∙ d) (is_next own) in
          absurd (omega (arith, own, next))
      go (the_next l d m) = l

  pub 1440_then_next : rounded_minute e N k ≡ 1_440 → (printed_day e N k ≡ term_day e N k +ℤ pos 1) × (printed_minute e N k ≡ 0)
  unfolding printed_day printed_minute carried_day carried_minute
  1440_then_next h = (rw (eq-eqb _ _ h) refl, rw (eq-eqb _ _ h) refl)

  -- a printed day is from -4 to 370, as the book's field has it
  pub printed_day_in : k < 24 → (neg_ℤ (pos 4) ≤ℤ printed_day e N k) × (printed_day e N k ≤ℤ pos 370)
  printed_day_in l = go printed
    where
      own : Is (term_day e N k) (up (term_day e N k)) (down (term_day e N k))
      own = is_own (term_day e N k)

      in_field : (day : ℤ) (later : ℕ) → later ≤ 1 → Is day (up (term_day e N k) + later) (down (term_day e N k)) → (neg_ℤ (pos 4) ≤ℤ day) × (day ≤ℤ pos 370)
      in_field day later c h =
          let d = term_day_lem e o N i k l in
          (le_is (is_neg (is_pos 4)) h (omega (arith, is_le (is_neg (is_pos 4)) own d.least)), le_is h (is_pos 370) (omega (arith, is_le own (is_pos 369) d.most)))

      go : PrintedOn e N k → (neg_ℤ (pos 4) ≤ℤ printed_day e N k) × (printed_day e N k ≤ℤ pos 370)
      go (the_day r d m) = rw d (in_field (term_day e N k) 0 (omega arith) (omega (arith, own)))
      go (the_next r d m) = rw d (in_field (term_day e N k +ℤ pos 1) 1 (omega arith) (omega (arith, is_next own)))
