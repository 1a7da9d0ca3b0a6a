-- Each function's promise holds its answer fast, and what is stored. Assumes nothing.
use mathlib.Core.Path.{◌≡◌, refl, ap₂}
use Rattle.reasoning.proofs.HeldFast.{Held, by_facts, one}
use Rattle.bhromilun.specs.contracts.reckoning.bhromilun_year as year
use Rattle.bhromilun.specs.contracts.reckoning.bhromilun_equation as equation
use Rattle.bhromilun.specs.contracts.reckoning.bhromilun_mean_place as mean-place
use Rattle.bhromilun.specs.contracts.reckoning.bhromilun_true_place as true-place
use Rattle.bhromilun.specs.contracts.reckoning.bhromilun_term as term
use Rattle.bhromilun.specs.contracts.reckoning.bhromilun_crossing as crossing
use Rattle.bhromilun.specs.contracts.reckoning.bhromilun_terms as terms
use Rattle.bhromilun.specs.contracts.reckoning.bhromilun_local_time as local-time
use Rattle.bhromilun.specs.contracts.books.bhromilun_write_year as write-year
use Rattle.bhromilun.specs.contracts.books.bhromilun_check_book as check-book
use Rattle.bhromilun.specs.contracts.books.bhromilun_seek_year as seek-year
use Rattle.bhromilun.specs.contracts.books.bhromilun_corrected_year as corrected-year
use Rattle.bhromilun.specs.contracts.books.bhromilun_verify_book as verify-book
use Rattle.bhromilun.specs.contracts.books.bhromilun_read_year as read-year
use Rattle.bhromilun.specs.contracts.books.bhromilun_write_year_from as write-year-from

-- two pairs of equal parts are equal
abbrev pair : {A B : Type 0} → A → B → A × B
pair x u = (x, u)

infixr 5 ◌and◌
◌and◌ : {A B : Type 0} {x y : A} {u v : B} → x ≡ y → u ≡ v → pair x u ≡ pair y v
p and q = ap₂ pair p q

pub bhromilun_year_held : Held year.ended (λ M 𝓤. year.clauses {M = M} {𝓤 = 𝓤})
bhromilun_year_held M 𝓤 𝓛 mem run κs a =
    by_facts 𝓤 (λ z z' w w' p q. (one p.number q.number, refl and one p.solstice_day q.solstice_day and one p.solstice_fraction q.solstice_fraction and one p.duty_mansion q.duty_mansion and refl))

pub bhromilun_equation_held : Held equation.ended (λ M 𝓤. equation.clauses {M = M} {𝓤 = 𝓤})
bhromilun_equation_held M 𝓤 𝓛 mem run κs a = by_facts 𝓤 (λ z z' w w' p q. (one p.number q.number, refl and one p.stored q.stored and refl))

pub bhromilun_mean_place_held : Held mean-place.ended (λ M 𝓤. mean-place.clauses {M = M} {𝓤 = 𝓤})
bhromilun_mean_place_held M 𝓤 𝓛 mem run κs a =
    by_facts 𝓤 (λ z z' w w' p q. (one p.number q.number, refl and refl and one p.stored q.stored and refl))

pub bhromilun_true_place_held : Held true-place.ended (λ M 𝓤. true-place.clauses {M = M} {𝓤 = 𝓤})
bhromilun_true_place_held M 𝓤 𝓛 mem run κs a =
    by_facts 𝓤 (λ z z' w w' p q. (one p.number q.number, refl and refl and one p.stored q.stored and refl))

pub bhromilun_term_held : Held term.ended (λ M 𝓤. term.clauses {M = M} {𝓤 = 𝓤})
bhromilun_term_held M 𝓤 𝓛 mem run κs a =
    by_facts 𝓤 (λ z z' w w' p q. (one p.number q.number, refl and refl and one p.day_of_term q.day_of_term and one p.minute_of_term q.minute_of_term and one p.count_of_term q.count_of_term and refl))

pub bhromilun_crossing_held : Held crossing.ended (λ M 𝓤. crossing.clauses {M = M} {𝓤 = 𝓤})
bhromilun_crossing_held M 𝓤 𝓛 mem run κs a =
    by_facts 𝓤 (λ z z' w w' p q. (one p.number q.number, refl and refl and one p.day_of_crossing q.day_of_crossing and one p.minute_of_crossing q.minute_of_crossing and refl))

pub bhromilun_terms_held : Held terms.ended (λ M 𝓤. terms.clauses {M = M} {𝓤 = 𝓤})
bhromilun_terms_held M 𝓤 𝓛 mem run κs a =
    by_facts 𝓤 (λ z z' w w' p q. (one p.number q.number, refl and one p.term_days q.term_days and one p.term_minutes q.term_minutes and one p.term_counts q.term_counts and refl))

pub bhromilun_local_time_held : Held local-time.ended (λ M 𝓤. local-time.clauses {M = M} {𝓤 = 𝓤})
bhromilun_local_time_held M 𝓤 𝓛 mem run κs a =
    by_facts 𝓤 (λ z z' w w' p q. (one p.number q.number, refl and refl and refl and one p.day_there q.day_there and one p.minute_there q.minute_there and refl))

pub bhromilun_write_year_held : Held write-year.ended (λ M 𝓤. write-year.clauses {M = M} {𝓤 = 𝓤})
bhromilun_write_year_held M 𝓤 𝓛 mem run κs a = by_facts 𝓤 (λ z z' w w' p q. (one p.number q.number, refl and one p.stored q.stored and refl))

pub bhromilun_check_book_held : Held check-book.ended (λ M 𝓤. check-book.clauses {M = M} {𝓤 = 𝓤})
bhromilun_check_book_held M 𝓤 𝓛 mem run κs a = by_facts 𝓤 (λ z z' w w' p q. (one p.number q.number, refl and one p.at_byte q.at_byte and refl))

pub bhromilun_seek_year_held : Held seek-year.ended (λ M 𝓤. seek-year.clauses {M = M} {𝓤 = 𝓤})
bhromilun_seek_year_held M 𝓤 𝓛 mem run κs a =
    by_facts 𝓤 (λ z z' w w' p q. (one p.number q.number, refl and refl and one p.part_start q.part_start and one p.part_end q.part_end and one p.fault_byte q.fault_byte and refl))

pub bhromilun_corrected_year_held : Held corrected-year.ended (λ M 𝓤. corrected-year.clauses {M = M} {𝓤 = 𝓤})
bhromilun_corrected_year_held M 𝓤 𝓛 mem run κs a =
    by_facts 𝓤 (λ z z' w w' p q. (
      one p.sought.number q.sought.number,
      refl and refl and refl and one p.which_book q.which_book and one p.sought.part_start q.sought.part_start and one p.sought.part_end q.sought.part_end and one p.sought.fault_byte q.sought.fault_byte and refl,
    ))

pub bhromilun_verify_book_held : Held verify-book.ended (λ M 𝓤. verify-book.clauses {M = M} {𝓤 = 𝓤})
bhromilun_verify_book_held M 𝓤 𝓛 mem run κs a = by_facts 𝓤 (λ z z' w w' p q. (one p.number q.number, refl and one p.at_byte q.at_byte and refl))

pub bhromilun_read_year_held : Held read-year.ended (λ M 𝓤. read-year.clauses {M = M} {𝓤 = 𝓤})
bhromilun_read_year_held M 𝓤 𝓛 mem run κs a =
    by_facts 𝓤 (λ z z' w w' p q. (
      one p.number q.number,
      refl and one p.year_n q.year_n and one p.year_name q.year_name and one p.year_mansion q.year_mansion and one p.term_days q.term_days and one p.term_minutes q.term_minutes and one p.year_end q.year_end and one p.fault_byte q.fault_byte and refl,
    ))

pub bhromilun_write_year_from_held : Held write-year-from.ended (λ M 𝓤. write-year-from.clauses {M = M} {𝓤 = 𝓤})
bhromilun_write_year_from_held M 𝓤 𝓛 mem run κs a =
    by_facts 𝓤 (λ z z' w w' p q. (one p.number q.number, refl and refl and refl and refl and refl and one p.stored q.stored and refl))
