-- A year and a day given together, from the answers of the two edges; and what their answer tells of both. Assumes nothing.
use mathlib.Core.Path.{◌≡◌, refl, ap}
use mathlib.Core.Bool.{Bool, true, false}
use Prim.Native.Nat.{ℕ}
use native.Mathlib.Omega.{arith}
use lib.IntN.{ℤ, pos, nat_abs, ◌+ℤ◌}
use Rattle.reasoning.proofs.Indexed.{Indexed, indexed}
use Rattle.reasoning.specs.Answer.{Answer, value, refused, refusing}
use Rattle.law.specs.Document.{bad_year, bad_day}
use Rattle.reasoning.proofs.Answers.{passed, stopped}
use Rattle.units.specs.IndexAnswers.{year_index_answer, day_index_answer}
use Rattle.units.proofs.IndexAnswers.{year_in}
use Rattle.sun.specs.YearAndDay.{Midnights, midnights_of, midnight_answer}

pub midnight_bad_year : (N d : ℤ) {k : ℕ} → refused k ≡ year_index_answer N → refused k ≡ midnight_answer N d
unfolding midnight_answer year_index_answer
midnight_bad_year N d e =
    let s = stopped (bad_year N) 1 (nat_abs (N +ℤ pos 2_000)) e in
    rw (s.test, s.is) refl

pub midnight_bad_day : (N d : ℤ) {y k : ℕ} → value y ≡ year_index_answer N → refused k ≡ day_index_answer d → refused k ≡ midnight_answer N d
unfolding midnight_answer day_index_answer
midnight_bad_day N d e f =
    let s = stopped (bad_day d) 2 (nat_abs (d +ℤ pos 4)) f in
    rw ((year_in N e).test, s.test, s.is) refl

pub midnight_is : (N d : ℤ) {y j : ℕ} → value y ≡ year_index_answer N → value j ≡ day_index_answer d → value (record { y = y; j = j }) ≡ midnight_answer N d
unfolding midnight_answer year_index_answer day_index_answer
midnight_is N d e f =
    let p = passed (bad_year N) 1 (nat_abs (N +ℤ pos 2_000)) e in
    let q = passed (bad_day d) 2 (nat_abs (d +ℤ pos 4)) f in
    rw (p.test, q.test, p.is, q.is) refl

pub midnight_in : (N d : ℤ) {m : Midnights} → value m ≡ midnight_answer N d → Indexed 2_000 2_000 N m.y × Indexed 4 370 d m.j
unfolding midnight_answer
midnight_in N d {m} e = go (bad_year N) (bad_day d) refl refl e
  where
    go : (a b : Bool) → bad_year N ≡ a → bad_day d ≡ b
        → value m ≡ refusing a 1 (refusing b 2 (value (midnights_of N d)))
        → Indexed 2_000 2_000 N m.y × Indexed 4 370 d m.j
    go true b s t f = absurd (let z : ◌≡◌ {A = ℕ} 0 1 = cc in omega arith)
    go false true s t f = absurd (let z : ◌≡◌ {A = ℕ} 0 1 = cc in omega arith)
    go false false s t f =
        let i : m ≡ midnights_of N d = cc in
        (indexed 2_000 2_000 N m.y s (ap (λ (w : Midnights). w.y) i), indexed 4 370 d m.j t (ap (λ (w : Midnights). w.j) i))

pub midnight_out : (N d : ℤ) {k : ℕ} → refused k ≡ midnight_answer N d → {A : Type 0} (x : Answer A)
    → refused k ≡ refusing (bad_year N) 1 (refusing (bad_day d) 2 x)
unfolding midnight_answer
midnight_out N d {k} e {A = A} x = go (bad_year N) (bad_day d) e
  where
    go : (a b : Bool) → refused k ≡ refusing a 1 (refusing b 2 (value (midnights_of N d)))
        → refused k ≡ refusing a 1 (refusing b 2 x)
    go true b f = ap refused (cc)
    go false true f = ap refused (cc)
    go false false f = absurd (let z : ◌≡◌ {A = ℕ} 0 1 = cc in omega arith)
