-- What each reading makes of a value and of a refusal, and a function's values in order, worked out by hand. Assumes nothing.
use mathlib.Core.Path.{◌≡◌, refl}
use mathlib.Core.Bool.{true, false}
use mathlib.Core.List.{[], ◌∷◌}
use Prim.Native.Nat.{ℕ, suc, ◌+◌}
use Rattle.reasoning.specs.Answer.{value, refused, refusing, done, afterwards, refusal_in, part}
use Rattle.reasoning.specs.InOrder.{in_order}

pub record AnswerFacts : Type 0 where
  pub test_holds : refusing {A = ℕ} true 1 (value 3) ≡ refused 1
  pub test_fails : refusing {A = ℕ} false 1 (value 3) ≡ value 3
  pub done_value : done {A = ℕ} (value 3) ≡ value tt
  pub done_refused : done {A = ℕ} (refused 6) ≡ refused 6
  pub after_value : afterwards {A = ℕ} 1 (value 2) ≡ 2
  pub after_refused : afterwards {A = ℕ} 1 (refused 6) ≡ 1
  pub number_value : refusal_in {A = ℕ} (value 3) ≡ 0
  pub number_refused : refusal_in {A = ℕ} (refused 6) ≡ 6
  pub part_value : part suc (value 2) ≡ value 3
  pub part_refused : part suc (refused 6) ≡ refused 6
  pub in_order_lem : in_order (λ (k : ℕ). k + 5) 3 ≡ 5 ∷ 6 ∷ 7 ∷ []

pub answer_facts : AnswerFacts
unfolding in_order
answer_facts =
    record {
      test_holds = refl;
      test_fails = refl;
      done_value = refl;
      done_refused = refl;
      after_value = refl;
      after_refused = refl;
      number_value = refl;
      number_refused = refl;
      part_value = refl;
      part_refused = refl;
      in_order_lem = refl;
    }
