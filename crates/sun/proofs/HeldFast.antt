-- Each public function's promise holds its answer fast. Assumes nothing.
use mathlib.Core.Path.{◌∙◌, sym, ◌≡◌, refl, ap, ap₂}
use lib.IntN.{ℤ}
use mathlib.Core.List.{List, [], ◌∷◌, map}
use Rattle.std.specs.Prelude.{Result, Ok, Err}
use Rattle.reasoning.proofs.HeldFast.{Held, by_facts, one_said}
use Rattle.reasoning.specs.Answer.{Answer, refused}
use Rattle.reasoning.proofs.Answers.{never, same_value}
use Rattle.law.specs.Document.{YearValues, TermValues, CrossingValues}
use Rattle.units.specs.declared.refusal.Refusal.{Refusal}
use Rattle.units.proofs.HeldFast.{refusal_of, refusal_back, one_answer}
use Rattle.units.specs.Said.{number_of}
use Rattle.sun.specs.declared.year.Year.{Year}
use Rattle.sun.specs.declared.term.TermRecord.{TermRecord}
use Rattle.sun.specs.declared.term.Crossing.{Crossing}
use Rattle.sun.specs.declared.worked_year.WorkedYear.{WorkedYear}
use Rattle.sun.specs.Said.{values_of_year, values_of_term, values_of_crossing}
use Rattle.sun.specs.Worked.{WorkedOut}
use Rattle.sun.specs.contracts.year.year_of as year-of
use Rattle.sun.specs.contracts.equation.equation_at as equation-at
use Rattle.sun.specs.contracts.place.mean_place as mean-place
use Rattle.sun.specs.contracts.place.true_place as true-place
use Rattle.sun.specs.contracts.place.run_on_place as run-on-place
use Rattle.sun.specs.contracts.term.term_of as term_of
use Rattle.sun.specs.contracts.term.crossing_of as crossing-of
use Rattle.sun.specs.contracts.worked_year.work_year as work-year

-- ---- the readings of answers can be taken back

abbrev year_of : YearValues → Year
year_of v = record { day_name = v.solstice_day; fraction = v.solstice_fraction; mansion = v.duty_mansion; root = v.year_root }

abbrev pub record_from : TermValues → TermRecord
record_from v = record { day = v.day_of_term; minute = v.minute_of_term; count = v.count_of_term }

abbrev crossing_from : CrossingValues → Crossing
crossing_from v = record { day = v.day_of_crossing; minute = v.minute_of_crossing }

pub records_back : (l : List TermRecord) → map record_from (map values_of_term l) ≡ l
records_back [] = refl
records_back (x ∷ xs) = ap (λ (r : List TermRecord). x ∷ r) (records_back xs)

-- ---- the functions

pub year_of_held : Held year-of.ended (λ M 𝓤. year-of.clauses {M = M} {𝓤 = 𝓤})
year_of_held M 𝓤 𝓛 mem run κs a = by_facts 𝓤 (λ z z' w w' p q. (one_answer values_of_year year_of (λ y. refl) p q, refl))

pub equation_at_held : Held equation-at.ended (λ M 𝓤. equation-at.clauses {M = M} {𝓤 = 𝓤})
equation_at_held M 𝓤 𝓛 mem run κs a = by_facts 𝓤 (λ z z' w w' p q. (one_answer (λ z. z) (λ z. z) (λ z. refl) p q, refl))

pub mean_place_held : Held mean-place.ended (λ M 𝓤. mean-place.clauses {M = M} {𝓤 = 𝓤})
mean_place_held M 𝓤 𝓛 mem run κs a = by_facts 𝓤 (λ z z' w w' p q. (one_answer (λ n. n) (λ n. n) (λ n. refl) p q, refl))

pub true_place_held : Held true-place.ended (λ M 𝓤. true-place.clauses {M = M} {𝓤 = 𝓤})
true_place_held M 𝓤 𝓛 mem run κs a = by_facts 𝓤 (λ z z' w w' p q. (one_answer (λ n. n) (λ n. n) (λ n. refl) p q, refl))

pub run_on_place_held : Held run-on-place.ended (λ M 𝓤. run-on-place.clauses {M = M} {𝓤 = 𝓤})
run_on_place_held M 𝓤 𝓛 mem run κs a = by_facts 𝓤 (λ z z' w w' p q. (one_answer (λ z. z) (λ z. z) (λ z. refl) p q, refl))

pub term_of_held : Held term_of.ended (λ M 𝓤. term_of.clauses {M = M} {𝓤 = 𝓤})
term_of_held M 𝓤 𝓛 mem run κs a = by_facts 𝓤 (λ z z' w w' p q. (one_answer values_of_term record_from (λ r. refl) p q, refl))

pub crossing_of_held : Held crossing-of.ended (λ M 𝓤. crossing-of.clauses {M = M} {𝓤 = 𝓤})
crossing_of_held M 𝓤 𝓛 mem run κs a = by_facts 𝓤 (λ z z' w w' p q. (one_answer values_of_crossing crossing_from (λ r. refl) p q, refl))

-- a lent list afterwards, as its records are read
pub one_records : {s : List TermValues} {l l' : List TermRecord} → map values_of_term l ≡ s → map values_of_term l' ≡ s → l ≡ l'
one_records p q = one_said (map values_of_term) (map record_from) records_back p q

one_refusal : {A : Type 0} (r s : Refusal) → ◌≡◌ {A = Answer A} (refused (number_of r)) (refused (number_of s)) → r ≡ s
one_refusal r s e =
    let n : number_of r ≡ number_of s = cc in
    sym (refusal_back r) ∙ (ap refusal_of n ∙ refusal_back s)

-- a year by value: its values and its terms, or the refusal
one_year : {N : ℤ} {s : Answer (List TermValues)} (r r' : Result WorkedYear Refusal) → WorkedOut N s r → WorkedOut N s r' → r ≡ r'
one_year (Ok w) (Ok w') p q =
    let years : w.year ≡ w'.year = one_said values_of_year year_of (λ (y : Year). refl) p.values q.values in
    let terms : w.terms ≡ w'.terms = one_records {s = map values_of_term w'.terms} (same_value (p.says ∙ sym q.says)) refl in
    ap₂ (λ (y : Year) (l : List TermRecord). Ok (record { year = y; terms = l })) years terms
one_year (Ok w) (Err r) p q = absurd (never (q.says ∙ sym p.says))
one_year (Err r) (Ok w) p q = absurd (never (p.says ∙ sym q.says))
one_year (Err r) (Err r') p q = ap Err (one_refusal r r' (p.says ∙ sym q.says))

pub work_year_held : Held work-year.ended (λ M 𝓤. work-year.clauses {M = M} {𝓤 = 𝓤})
work_year_held M 𝓤 𝓛 mem run κs a = by_facts 𝓤 (λ z z' w w' p q. (one_year z z' p q, refl))
