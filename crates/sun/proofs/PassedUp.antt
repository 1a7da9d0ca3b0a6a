-- What a `?` returns says the refusal that it was given; a year's refusal is that of each answer that tests the year first, and a year
-- that was counted is the index of the year given. Assumes nothing.
use mathlib.Core.Bool.{Bool, true, false}
use mathlib.Core.Path.{◌≡◌, refl, ap}
use Prim.Native.Nat.{ℕ}
use native.Mathlib.Omega.{arith}
use lib.IntN.{ℤ}
use mir.Syntax.{w64}
use mir.Val.{SFits}
use Rattle.std.specs.Prelude.{Result, Ok, Err, IsErrAnd}
use Rattle.reasoning.proofs.Indexed.{Indexed}
use Rattle.reasoning.specs.Answer.{Answer, value, refused, refusing}
use Rattle.law.specs.Index.{year_index}
use Rattle.law.specs.Document.{bad_year}
use Rattle.units.specs.IndexAnswers.{year_index_answer}
use Rattle.units.specs.declared.refusal.Refusal.{Refusal}
use Rattle.units.specs.Said.{number_of, said, said_number}
use Rattle.units.proofs.Callers.{told}
use Rattle.units.proofs.IndexAnswers.{year_in}
use Rattle.units.proofs.Machine.{read}
use Rattle.sun.specs.declared.midnight.CountedYear.{CountedYear}
use Rattle.sun.specs.Said.{said_counted}

pub passed_up : {T A : Type 0} (values : T → A) (r : Result T Refusal) (q : Refusal) → IsErrAnd r (λ (e : Refusal). e ≡ q) → said values r ≡ refused (number_of q)
passed_up values (Ok v) q h = absurd h
passed_up values (Err e) q h = ap (λ (s : Refusal). refused (number_of s)) h

year_out : {A : Type 0} (N : ℤ) {k : ℕ} (x : Answer A) → refused k ≡ year_index_answer N → refused k ≡ refusing (bad_year N) 1 x
unfolding year_index_answer
year_out N {k} x e = go (bad_year N) e
  where
    go : (b : Bool) → refused k ≡ refusing b 1 (value (year_index N)) → refused k ≡ refusing b 1 x
    go true f = ap refused (cc)
    go false f = absurd (let z : ◌≡◌ {A = ℕ} 0 1 = cc in omega arith)

pub year_refused : {A : Type 0} {n : ℤ} {r : Result ℕ Refusal} {q : Refusal} (x : Answer A) → SFits w64 n → said_number r ≡ year_index_answer (read w64 n) → r ≡ Err q
    → refused (number_of q) ≡ refusing (bad_year n) 1 x
year_refused {n = n} x f e i = year_out n x (told said_number year_index_answer f e i)

pub count_refused : {A : Type 0} {n : ℤ} {r : Result CountedYear Refusal} {q : Refusal} (x : Answer A) → SFits w64 n → said_counted r ≡ year_index_answer (read w64 n) → r ≡ Err q
    → refused (number_of q) ≡ refusing (bad_year n) 1 x
count_refused {n = n} x f e i = year_out n x (told said_counted year_index_answer f e i)

-- what is not counted is outside
pub count_out : {A : Type 0} {n : ℤ} {r : Result CountedYear Refusal} {q : Refusal} (x : Answer A) → SFits w64 n → said_counted r ≡ year_index_answer (read w64 n) → r ≡ Err q
    → refused 1 ≡ refusing (bad_year n) 1 x
unfolding year_index_answer
count_out {n = n} x f e i = go (bad_year n) (told said_counted year_index_answer f e i)
  where
    go : {k : ℕ} (b : Bool) → refused k ≡ refusing b 1 (value (year_index n)) → refused 1 ≡ refusing b 1 x
    go true h = refl
    go false h = absurd (let z : ◌≡◌ {A = ℕ} 0 1 = cc in omega arith)

pub counted_known : {n : ℤ} {r : Result CountedYear Refusal} {year : CountedYear} → SFits w64 n → said_counted r ≡ year_index_answer (read w64 n) → r ≡ Ok year
    → Indexed 2_000 2_000 n year.y
counted_known {n = n} f e i = year_in n (told said_counted year_index_answer f e i)
