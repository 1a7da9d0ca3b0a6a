-- Each public function's promise holds its answer fast, and the list or the buffer afterwards. Assumes nothing.
use mathlib.Core.Path.{◌≡◌, refl, sym, ◌∙◌, ap}
use mathlib.Core.List.{List}
use Prim.Native.Nat.{ℕ}
use Rattle.std.specs.Prelude.{Result, Ok, Err}
use Rattle.reasoning.proofs.HeldFast.{Held, by_facts}
use Rattle.reasoning.specs.Answer.{Answer, value, refused}
use Rattle.law.specs.Book.{Checked, sound, faulty, HeadValues, head_read}
use Rattle.units.proofs.HeldFast.{refusal_of, refusal_back, one_answer}
use Rattle.sun.proofs.HeldFast.{one_records}
use Rattle.book.specs.declared.seek.NoYear.{NoYear}
use Rattle.book.specs.declared.seek.NoYear.TheVariants.{Unsound, Refused}
use Rattle.values.proofs.HeldFast.{head_from, one_written}
use Rattle.lists.specs.declared.read.ReadYear.{ReadYear}
use Rattle.lists.specs.Read.{YearRead}
use Rattle.lists.specs.contracts.fill.fill_terms as fill-terms
use Rattle.lists.specs.contracts.read.read_year as read-year
use Rattle.lists.specs.contracts.write.write_year_from as write-year-from

pub fill_terms_held : Held fill-terms.ended (λ M 𝓤. fill-terms.clauses {M = M} {𝓤 = 𝓤})
fill_terms_held M 𝓤 𝓛 mem run κs a =
    by_facts 𝓤 (λ z z' w w' p q. (one_answer (λ u. tt) (λ u. tt) (λ u. refl) p.says q.says, ap (λ l. (l, (tt, tt))) (one_records p.list q.list)))

-- what is answered, from what is said and the head that is read
abbrev pub year_read_from : Answer Checked → HeadValues → Result ReadYear NoYear
year_read_from (value (sound e)) head = Ok (record { end = e; head = head_from head })
year_read_from (value (faulty n at)) head = Err (Unsound (record { refusal = refusal_of n; byte = at }))
year_read_from (refused n) head = Err (Refused (refusal_of n))

pub year_read_back : {b : List ℕ} {answer : Answer Checked} (r : Result ReadYear NoYear) → YearRead b answer r → year_read_from answer (head_read answer b) ≡ r
year_read_back (Ok year) w = rw (← w.head, ← w.says) refl
year_read_back (Err (Unsound fault)) w = rw (← w.says) (ap (λ r. Err (Unsound (record { refusal = r; byte = fault.byte }))) (refusal_back fault.refusal))
year_read_back (Err (Refused refusal)) w = rw (← w.says) (ap (λ r. Err (Refused r)) (refusal_back refusal))

pub read_year_held : Held read-year.ended (λ M 𝓤. read-year.clauses {M = M} {𝓤 = 𝓤})
read_year_held M 𝓤 𝓛 mem run κs a =
    by_facts 𝓤 (λ z z' w w' p q. (sym (year_read_back z p.year) ∙ year_read_back z' q.year, ap (λ l. (tt, (l, tt))) (one_records p.list q.list)))

pub write_year_from_held : Held write-year-from.ended (λ M 𝓤. write-year-from.clauses {M = M} {𝓤 = 𝓤})
write_year_from_held M 𝓤 𝓛 mem run κs a =
    by_facts 𝓤 (λ z z' w w' p q. let o = one_written p q in (o.0, ap (λ l. (tt, (tt, (l, tt)))) o.1))
