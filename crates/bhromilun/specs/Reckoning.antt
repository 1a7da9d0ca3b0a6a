-- What each call of the reckoning leaves, by document 01's answer: a refusal stores nothing. Assumes nothing.
use Rattle.std.specs.Prelude.{◌≡◌, List, ℕ, ℤ}
use Rattle.reasoning.specs.Answer.{Answer, refusal_in}
use Rattle.law.specs.Document.{YearValues, TermValues, CrossingValues, LocalValues}
use Rattle.bhromilun.specs.Told.{Lent, Stored}
use Rattle.bhromilun.specs.Columns.{days_of, minutes_of, counts_of}

pub record ToldYear (answer : Answer YearValues) (r : ℕ) (day_name fraction mansion : Lent ℕ) : Type 0 where
  pub number : r ≡ refusal_in answer
  pub solstice_day : Stored answer (λ v. v.solstice_day) day_name
  pub solstice_fraction : Stored answer (λ v. v.solstice_fraction) fraction
  pub duty_mansion : Stored answer (λ v. v.duty_mansion) mansion

pub record ToldTerm (answer : Answer TermValues) (r : ℕ) (day : Lent ℤ) (minute count : Lent ℕ) : Type 0 where
  pub number : r ≡ refusal_in answer
  pub day_of_term : Stored answer (λ v. v.day_of_term) day
  pub minute_of_term : Stored answer (λ v. v.minute_of_term) minute
  pub count_of_term : Stored answer (λ v. v.count_of_term) count

pub record ToldCrossing (answer : Answer CrossingValues) (r : ℕ) (day : Lent ℤ) (minute : Lent ℕ) : Type 0 where
  pub number : r ≡ refusal_in answer
  pub day_of_crossing : Stored answer (λ v. v.day_of_crossing) day
  pub minute_of_crossing : Stored answer (λ v. v.minute_of_crossing) minute

pub record ToldTerms (answer : Answer (List TermValues)) (r : ℕ) (days : Lent (List ℤ)) (minutes counts : Lent (List ℕ)) : Type 0 where
  pub number : r ≡ refusal_in answer
  pub term_days : Stored answer days_of days
  pub term_minutes : Stored answer minutes_of minutes
  pub term_counts : Stored answer counts_of counts

pub record ToldLocal (answer : Answer LocalValues) (r : ℕ) (day : Lent ℤ) (minute : Lent ℕ) : Type 0 where
  pub number : r ≡ refusal_in answer
  pub day_there : Stored answer (λ v. v.day_there) day
  pub minute_there : Stored answer (λ v. v.minute_there) minute
