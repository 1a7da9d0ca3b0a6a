-- What the writer answers: a year worked out is written as it is, or its refusal is the writer's. Assumes nothing.
use mathlib.Core.Bool.{false}
use mathlib.Core.List.{List}
use mathlib.Core.Path.{◌≡◌, refl, sym, ap, subst}
use Prim.Native.Nat.{ℕ, ◌≤◌, ◌<◌}
use borrow.Author.Tests.{lt-ltb, le-ltb}
use lib.IntN.{ℤ}
use lib.ListN.{length, drop}
use mir.Syntax.{w64}
use mir.Val.{SFits}
use mir.Facts.{to_z-of_z}
use Rattle.std.specs.Prelude.{Result, Ok, Err}
use Rattle.reasoning.specs.Answer.{value, refused}
use Rattle.reasoning.specs.InOrder.{in_order}
use Rattle.reasoning.proofs.Answers.{passed_all, passed_on}
use Rattle.law.specs.Document.{bad_year, YearValues, term_values, off_below, terms_answer}
use Rattle.law.specs.Book.{bytes_of, worked_year, worked_answer}
use Rattle.units.specs.declared.refusal.Refusal.{Refusal}
use Rattle.units.specs.Said.{number_of}
use Rattle.units.specs.IndexAnswers.{no_room}
use Rattle.units.proofs.Machine.{read}
use Rattle.units.proofs.IndexAnswers.{no_room_answer}
use Rattle.sun.specs.declared.worked_year.WorkedYear.{WorkedYear}
use Rattle.sun.specs.Worked.{WorkedOut}
use Rattle.values.specs.Said.{given_year}

-- a year worked out, as it is to be written
pub record Worked (e : ℕ) (N : ℤ) (w : WorkedYear) : Type 0 where
  pub year : bad_year N ≡ false
  pub off : off_below e N 24 ≡ false
  pub is : given_year (record { n = N; day_name = w.year.day_name; mansion = w.year.mansion }) w.terms ≡ worked_year e N

-- what `work_year` said, handed the machine's reading of the year
pub worked_told : (e : ℕ) {n : ℤ} (r : Result WorkedYear Refusal) → SFits w64 n → WorkedOut (read w64 n) (terms_answer e (read w64 n)) r → WorkedOut n (terms_answer e n) r
worked_told e r f w = subst (λ (z : ℤ). WorkedOut z (terms_answer e z) r) (to_z-of_z f) w

module _ (e : ℕ) (N : ℤ) where
  pub worked : {w : WorkedYear} → WorkedOut N (terms_answer e N) (Ok w) → Worked e N w
  unfolding terms_answer worked_year
  worked {w} said =
      let passed = passed_all 1 6 5 (in_order (term_values e N) 24) (bad_year N) false (off_below e N 24) said.says in
      record {
        year = passed.first;
        off = passed.third;
        is = rw (ap (λ (v : YearValues). v.solstice_day) said.values, ap (λ (v : YearValues). v.duty_mansion) said.values, passed.is) refl;
      }

  module _ (b : List ℕ) where
    pub worked_6 : length b < 149 → worked_answer e N b ≡ refused (number_of (no_room N))
    unfolding worked_answer
    worked_6 l = rw (lt-ltb (length b) 149 l) (no_room_answer N)

    module _ (l : 149 ≤ length b) where
      pub worked_refused : {r : Refusal} → WorkedOut N (terms_answer e N) (Err r) → worked_answer e N b ≡ refused (number_of r)
      unfolding worked_answer terms_answer
      worked_refused said =
          rw (le-ltb (length b) 149 l) (sym (passed_on 1 6 5 (in_order (term_values e N) 24) (bytes_of (worked_year e N) (drop 149 b)) (bad_year N) false (off_below e N 24) said.says))

      pub worked_done : {w : WorkedYear} → Worked e N w → worked_answer e N b ≡ value (bytes_of (worked_year e N) (drop 149 b))
      unfolding worked_answer
      worked_done w = rw (w.year, le-ltb (length b) 149 l, w.off) refl
