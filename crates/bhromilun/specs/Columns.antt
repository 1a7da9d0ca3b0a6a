-- A year's terms as columns of numbers. Assumes nothing.
use Rattle.std.specs.Prelude.{List, map, ℕ, ℤ, pos, get_or}
use Rattle.reasoning.specs.InOrder.{in_order}
use Rattle.law.specs.Document.{TermValues}

abbrev pub days_of : List TermValues → List ℤ
days_of terms = map (λ v. v.day_of_term) terms

abbrev pub minutes_of : List TermValues → List ℕ
minutes_of terms = map (λ v. v.minute_of_term) terms

abbrev pub counts_of : List TermValues → List ℕ
counts_of terms = map (λ v. v.count_of_term) terms

-- term k of two columns, its count 0
abbrev pub term_given : List ℤ → List ℕ → ℕ → TermValues
term_given days minutes k = record { day_of_term = get_or days k (pos 0); minute_of_term = get_or minutes k 0; count_of_term = 0 }

abbrev pub terms_given : List ℤ → List ℕ → List TermValues
terms_given days minutes = in_order (term_given days minutes) 24
