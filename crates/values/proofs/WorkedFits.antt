-- A year that is worked out may always be written: in every year from -2,000 to 2,000, day name, mansion, and each term's
-- printed day and minute are in their ranges, at any difference of the epicycles up to document 01's. Assumes nothing.
use mathlib.Core.Bool.{false}
use mathlib.Core.Path.{◌≡◌, refl, ◌∙◌}
use Prim.Native.Nat.{ℕ, zero, suc, ◌≤◌, ◌<◌}
use native.Mathlib.Omega.{arith}
use borrow.Author.Tests.{le-ltb}
use lib.IntN.{ℤ}
use Rattle.reasoning.proofs.Whole.{is_pos, is_neg, is_own, is_le, lt_z_is}
use Rattle.reasoning.specs.InOrder.{in_order}
use Rattle.law.specs.Document.{epicycles, bad_year, bad_day, bad_minute, day_name, mansion, printed_day, printed_minute, TermValues, term_values}
use Rattle.law.specs.Book.{bad_term_values, any_bad, bad_values, worked_year}
use Rattle.law.proofs.Floor.{floor_less}
use Rattle.motion.proofs.Printed.{printed_minute_le, printed_day_in}
use Rattle.motion.proofs.Years.{InYears, in_years}
use Rattle.values.proofs.WriteAnswers.{terms_decide}

name_less : (N : ℤ) → day_name N < 60
unfolding day_name
name_less N = floor_less _ 60 (omega arith)

mansion_less : (N : ℤ) → mansion N < 28
unfolding mansion
mansion_less N = floor_less _ 28 (omega arith)

module _ (e : ℕ) (o : e ≤ epicycles) (N : ℤ) (h : bad_year N ≡ false) (k : ℕ) (l : k < 24) where
  years : InYears N
  years = in_years h

  day_fits : bad_day (printed_day e N k) ≡ false
  day_fits =
      let own = is_own (printed_day e N k) in
      let d = printed_day_in e o N years k l in
      let least = is_le (is_neg (is_pos 4)) own d.0 in
      let most = is_le own (is_pos 370) d.1 in
      rw (lt_z_is own (is_neg (is_pos 4)), lt_z_is (is_pos 370) own, le-ltb _ _ least, le-ltb _ _ most)

  minute_fits : bad_minute (printed_minute e N k) ≡ false
  minute_fits = le-ltb 1_439 (printed_minute e N k) (printed_minute_le e o N years k)

  term_fits : bad_term_values (term_values e N k) ≡ false
  unfolding term_values
  term_fits = rw (day_fits, minute_fits)

none_bad : (f : ℕ → TermValues) (n : ℕ) → ((k : ℕ) → k < n → bad_term_values (f k) ≡ false) → any_bad (in_order f n) ≡ false
unfolding any_bad in_order
none_bad f zero h = refl
none_bad f (suc n) h = rw (h 0 (omega arith), none_bad (λ (k : ℕ). f (suc k)) n (λ (k : ℕ) (l : k < n). h (suc k) (omega arith)))

pub worked_fits : (e : ℕ) → e ≤ epicycles → (N : ℤ) → bad_year N ≡ false → bad_values (worked_year e N) ≡ false
unfolding worked_year
worked_fits e o N h =
    terms_decide (worked_year e N) (omega (arith, name_less N)) (omega (arith, mansion_less N)) ∙ none_bad (term_values e N) 24 (λ (k : ℕ) (l : k < 24). term_fits e o N h k l)
