-- Each public function's promise holds its answer fast, and the buffer afterwards. Assumes nothing.
use mathlib.Core.Path.{◌≡◌, refl, sym, ◌∙◌, ap}
use mathlib.Core.List.{List, map}
use Prim.Native.Nat.{ℕ}
use Rattle.std.specs.Prelude.{Result, Ok, Err}
use Rattle.reasoning.proofs.HeldFast.{Held, by_facts, one}
use Rattle.reasoning.specs.Answer.{Answer}
use Rattle.law.specs.Book.{BookYear, Checked, sound, faulty, HeadValues, head_of, values_in}
use Rattle.units.specs.declared.refusal.Refusal.{Refusal}
use Rattle.units.proofs.HeldFast.{refusal_of, refusal_back, one_answer}
use Rattle.sun.proofs.HeldFast.{record_from, records_back}
use Rattle.book.specs.declared.fault.Fault.{Fault}
use Rattle.values.specs.declared.read.ReadValues.{ReadValues}
use Rattle.values.specs.declared.head.Head.{Head}
use Rattle.values.specs.Told.{ValuesRead, Told}
use Rattle.values.specs.contracts.read.read_values as read-values
use Rattle.values.specs.contracts.write.write_values as write-values
use Rattle.values.specs.contracts.worked_year.write_year as write-year

-- ---- a year read

abbrev pub head_from : HeadValues → Head
head_from v = record { n = v.head_n; day_name = v.head_name; mansion = v.head_mansion }

-- what is answered, from what is said and the year's values
abbrev values_from : Checked → BookYear → Result ReadValues Fault
values_from (sound e) v = Ok (record { end = e; head = head_from (head_of v); terms = map record_from v.year_terms })
values_from (faulty n at) v = Err (record { refusal = refusal_of n; byte = at })

values_back : {b : List ℕ} {said : Checked} (r : Result ReadValues Fault) → ValuesRead b said r → values_from said (values_in b) ≡ r
values_back (Ok read) w = rw (← w.says, ← w.year) (ap (λ l. Ok (record { end = read.end; head = read.head; terms = l })) (records_back read.terms))
values_back (Err fault) w = rw (← w.says) (ap (λ r. Err (record { refusal = r; byte = fault.byte })) (refusal_back fault.refusal))

pub read_values_held : Held read-values.ended (λ M 𝓤. read-values.clauses {M = M} {𝓤 = 𝓤})
read_values_held M 𝓤 𝓛 mem run κs a = by_facts 𝓤 (λ z z' w w' p q. (sym (values_back z p) ∙ values_back z' q, refl))

-- ---- a year written

pub one_written : {answer : List ℕ → Answer (List ℕ)} {b w w' : List ℕ} {z z' : Result Unit Refusal} → Told answer b w z → Told answer b w' z' → (z ≡ z') × (w ≡ w')
one_written p q = (one_answer (λ u. tt) (λ u. tt) (λ u. refl) p.says q.says, one p.holds q.holds)

pub write_values_held : Held write-values.ended (λ M 𝓤. write-values.clauses {M = M} {𝓤 = 𝓤})
write_values_held M 𝓤 𝓛 mem run κs a =
    by_facts 𝓤 (λ z z' w w' p q. let o = one_written p q in (o.0, ap (λ l. (tt, (tt, (l, tt)))) o.1))

pub write_year_held : Held write-year.ended (λ M 𝓤. write-year.clauses {M = M} {𝓤 = 𝓤})
write_year_held M 𝓤 𝓛 mem run κs a = by_facts 𝓤 (λ z z' w w' p q. let o = one_written p q in (o.0, ap (λ l. (tt, (l, tt))) o.1))
