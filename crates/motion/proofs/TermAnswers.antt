-- The answers of a term from its search: no midnight is off the table; what is cut off and what is printed of the search's night, of
-- what is gone and of the step are the documents'.
-- Assumes nothing.
use mathlib.Core.Path.{◌≡◌, refl, ap}
use mathlib.Core.Bool.{Bool, true, false, cond}
use Prim.Native.Nat.{ℕ, zero, suc, ◌≤◌, ◌<◌}
use native.Mathlib.Nat.{zero-add}
use native.Mathlib.Omega.{arith}
use borrow.Author.Tests.{le-ltb, eq-eqb, ne_eqb}
use lib.IntN.{ℤ, pos, ◌+ℤ◌, ◌-ℤ◌}
use lib.Signed.{lt_z}
use Rattle.reasoning.proofs.Whole.{Is, is_pos, is_add, is_minus, is_abs, same}
use Rattle.reasoning.proofs.Indexed.{Indexed, indexed}
use Rattle.reasoning.specs.Answer.{value, refusing, part}
use Rattle.law.specs.Index.{year_index}
use Rattle.reasoning.specs.InOrder.{in_order}
use Rattle.law.specs.Document.{epicycles, anomaly, run_on_place, mark, start, term_day, cut_off, cut_minute, rounded, rounded_minute, carried_minute, carried_day, printed_day, printed_minute, bad_year, bad_term, off_table, off_from, off_term, term_values, term_answer, crossing_values, crossing_answer, off_below, terms_answer}
use Rattle.reasoning.proofs.InOrder.{in_order_same}
use Rattle.motion.specs.Working.{Find, find_from, find_of, find_answer, crossing_of, print_of, term_of}
use Rattle.motion.proofs.NeverOffTable.{never_off_table}
use Rattle.motion.proofs.TermBridge.{count_is, term_day_is, gone_is, step_is}

never_off : (off : ℤ → Bool) (place : ℤ → ℤ) (m : ℤ) → ((d : ℤ) → off d ≡ false) → (left : ℕ) (d : ℤ) → off_from off place m left d ≡ false
unfolding off_from
never_off off place m h zero d = refl
never_off off place m h (suc left) d = rw (h d, never_off off place m h left (d +ℤ pos 1)) (either (lt_z m (place d)))
  where
    either : (b : Bool) → cond b false false ≡ false
    either true = refl
    either false = refl

pub never_off_term : (e : ℕ) → e ≤ epicycles → (N : ℤ) (k : ℕ) → off_term e N k ≡ false
never_off_term e o N k =
    never_off (λ (d : ℤ). off_table e (anomaly N d)) (run_on_place e N) (mark k) (λ (d : ℤ). never_off_table e o (anomaly N d)) 8 (start N k)

-- a find, with its night counted as a day: cut off; printed; printed where the minute rounds to 1,440
module _ (f : Find) (d : ℤ) where
  night_is : Is d f.day_found 4 → d ≡ pos f.day_found -ℤ pos 4
  night_is i = same i (is_minus (is_pos f.day_found) (is_pos 4)) (omega arith)

  pub cut_from : Is d f.day_found 4 → record { day_of_crossing = d; minute_of_crossing = cut_off f.gone_found f.step_found } ≡ crossing_of f
  unfolding crossing_of
  cut_from i = rw (night_is i) refl

  pub print_from : Is d f.day_found 4 → (rounded f.gone_found f.step_found ≡ 1_440 → ⊥)
      → record { day_of_term = d; minute_of_term = rounded f.gone_found f.step_found; count_of_term = f.count_found } ≡ print_of f
  unfolding print_of carried_day carried_minute
  print_from i n = rw (ne_eqb _ _ n, night_is i) refl

  pub print_next : Is d (suc f.day_found) 4 → rounded f.gone_found f.step_found ≡ 1_440
      → record { day_of_term = d; minute_of_term = 0; count_of_term = f.count_found } ≡ print_of f
  unfolding print_of carried_day carried_minute
  print_next i n =
      let next : d ≡ pos f.day_found -ℤ pos 4 +ℤ pos 1 =
      same i (is_add (is_minus (is_pos f.day_found) (is_pos 4)) (is_pos 1)) (omega arith) in
      rw (eq-eqb _ _ n, next) refl

module _ (e : ℕ) (o : e ≤ epicycles) (N : ℤ) {y : ℕ} (n : Indexed 2_000 2_000 N y) (k : ℕ) where
  day_is : pos (find_of e y k).day_found -ℤ pos 4 ≡ term_day e N k
  unfolding find_of find_from
  day_is = same (is_minus (is_pos (find_of e y k).day_found) (is_pos 4)) (term_day_is n.is e n.most k o) (omega arith)

  pub term_is_lem : term_of e y k ≡ term_values e N k
  unfolding term_of print_of term_values printed_day printed_minute rounded_minute find_of find_from
  term_is_lem =
      rw (count_is n.is e n.most k, day_is, gone_is n.is e n.most k o, step_is n.is e n.most k o, zero-add) refl

  pub crossing_is : crossing_of (find_of e y k) ≡ crossing_values e N k
  unfolding crossing_of crossing_values cut_minute find_of find_from
  crossing_is = rw (day_is, gone_is n.is e n.most k o, step_is n.is e n.most k o) refl

-- a search that neither test refuses
pub found_value : (e : ℕ) (N : ℤ) {y : ℕ} → Indexed 2_000 2_000 N y → (k : ℕ) → k ≤ 23 → value (find_of e y k) ≡ find_answer e N k
unfolding find_answer
found_value e N {y} n k h =
    let i : y ≡ year_index N = omega (arith, is_abs (is_add n.is (is_pos 2_000)) (omega arith)) in
    rw (n.test, le-ltb _ _ h) (ap (λ (z : ℕ). value (find_of e z k)) i)

-- what is made of a find is the answer, its refusals those of the search
module _ (e : ℕ) (o : e ≤ epicycles) (N : ℤ) (k : ℕ) where
  answered : {A : Type 0} (made : Find → A) (v : A) → ((n : Indexed 2_000 2_000 N (year_index N)) → made (find_of e (year_index N) k) ≡ v)
      → part made (find_answer e N k) ≡ refusing (bad_year N) 1 (refusing (bad_term k) 3 (refusing (off_term e N k) 5 (value v)))
  unfolding find_answer
  answered {A = A} made v h = rw (never_off_term e o N k) (go (bad_year N) (bad_term k) refl)
    where
      go : (b t : Bool) → bad_year N ≡ b
          → part made (refusing b 1 (refusing t 3 (value (find_of e (year_index N) k)))) ≡ refusing b 1 (refusing t 3 (value v))
      go true t p = refl
      go false true p = refl
      go false false p = ap value (h (indexed 2_000 2_000 N (year_index N) p refl))

  pub term_answered : part print_of (find_answer e N k) ≡ term_answer e N k
  unfolding term_answer term_of
  term_answered = answered print_of (term_values e N k) (λ (n : Indexed 2_000 2_000 N (year_index N)). term_is_lem e o N n k)

  pub crossing_answered : part crossing_of (find_answer e N k) ≡ crossing_answer e N k
  unfolding crossing_answer
  crossing_answered = answered crossing_of (crossing_values e N k) (λ (n : Indexed 2_000 2_000 N (year_index N)). crossing_is e o N n k)

-- the year's 24
pub none_off : (e : ℕ) → e ≤ epicycles → (N : ℤ) (k : ℕ) → off_below e N k ≡ false
unfolding off_below
none_off e o N zero = refl
none_off e o N (suc k) = rw (never_off_term e o N k, none_off e o N k) refl

pub terms_value : (e : ℕ) → e ≤ epicycles → (N : ℤ) {y : ℕ} → Indexed 2_000 2_000 N y → value (in_order (term_of e y) 24) ≡ terms_answer e N
unfolding terms_answer
terms_value e o N {y} n =
    rw (n.test, none_off e o N 24)
    (ap value (in_order_same (term_of e y) (term_values e N) 24 (λ (k : ℕ) (h : k < 24). term_is_lem e o N n k)))
