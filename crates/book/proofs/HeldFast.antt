-- Each public function's promise holds its answer fast, and the reader afterwards. Assumes nothing.
use mathlib.Core.Path.{◌≡◌, refl, ◌∙◌, sym, ap}
use mathlib.Core.List.{List}
use Prim.Native.Nat.{ℕ}
use borrow.Fn.Enter.{pair≡}
use denote.Ref.{Bor}
use Rattle.std.specs.Prelude.{Option, Some, None, Result, Ok, Err}
use Rattle.reasoning.proofs.HeldFast.{Seen, Held, by_facts, one, one_said}
use Rattle.law.specs.Book.{handed_start, Checked, sound, faulty, Next, next_year, book_end, stop, Sought, found, unsound, no_year}
use Rattle.units.proofs.HeldFast.{refusal_of, refusal_back}
use Rattle.units.specs.Said.{number_of}
use Rattle.book.specs.declared.fault.Fault.{Fault}
use Rattle.book.specs.declared.year.Next.{Next as NextYear}
use Rattle.book.specs.declared.reader.Handed.{Handed}
use Rattle.book.specs.declared.seek.Part.{Part}
use Rattle.book.specs.declared.seek.NoYear.{NoYear}
use Rattle.book.specs.declared.seek.NoYear.TheVariants.{Unsound, Refused}
use Rattle.book.specs.Said.{said_checked, said_next, said_sought}
use Rattle.book.specs.Reader.{PartIs, place_in, hands_out, finds, said_handed, HandsOn}
use Rattle.book.specs.declared.reader.Reader.{Reader}
use Rattle.book.specs.contracts.bytes.byte_at as byte_at
use Rattle.book.specs.contracts.bytes.two_at as two_at
use Rattle.book.specs.contracts.year.next_at as next-at
use Rattle.book.specs.contracts.year.check_book as check-book
use Rattle.book.specs.contracts.seek.seek_year as seek-year
use Rattle.book.specs.contracts.seek.year_part as year-part
use Rattle.book.specs.contracts.reader.open as reader-open
use Rattle.book.specs.contracts.reader.next as reader-next

-- ---- the readings of answers can be taken back

abbrev pub fault_of : ℕ → ℕ → Fault
fault_of n byte = record { refusal = refusal_of n; byte = byte }

pub fault_back : (fault : Fault) → fault_of (number_of fault.refusal) fault.byte ≡ fault
fault_back fault = ap (λ r. record { refusal = r; byte = fault.byte }) (refusal_back fault.refusal)

abbrev pub checked_from : Checked → Result ℕ Fault
checked_from (sound e) = Ok e
checked_from (faulty n at) = Err (fault_of n at)

pub checked_back : (r : Result ℕ Fault) → checked_from (said_checked r) ≡ r
checked_back (Ok e) = refl
checked_back (Err fault) = ap Err (fault_back fault)

abbrev next_from : Next → Result (Option NextYear) Fault
next_from (next_year e l) = Ok (Some (record { end = e; least = l }))
next_from book_end = Ok None
next_from (stop n at) = Err (fault_of n at)

next_back : (r : Result (Option NextYear) Fault) → next_from (said_next r) ≡ r
next_back (Ok (Some year)) = refl
next_back (Ok None) = refl
next_back (Err fault) = ap Err (fault_back fault)

abbrev sought_from : Sought → Result Part NoYear
sought_from (found a e) = Ok (record { start = a; end = e })
sought_from (unsound n at) = Err (Unsound (fault_of n at))
sought_from (no_year n) = Err (Refused (refusal_of n))

sought_back : (r : Result Part NoYear) → sought_from (said_sought r) ≡ r
sought_back (Ok part) = refl
sought_back (Err (Unsound fault)) = ap (λ f. Err (Unsound f)) (fault_back fault)
sought_back (Err (Refused r)) = ap (λ f. Err (Refused f)) (refusal_back r)

-- ---- the functions

pub byte_at_held : Held byte_at.ended (λ M 𝓤. byte_at.clauses {M = M} {𝓤 = 𝓤})
byte_at_held M 𝓤 𝓛 mem run κs a = by_facts 𝓤 (λ z z' w w' p q. (one p.0 q.0, refl))

pub two_at_held : Held two_at.ended (λ M 𝓤. two_at.clauses {M = M} {𝓤 = 𝓤})
two_at_held M 𝓤 𝓛 mem run κs a = by_facts 𝓤 (λ z z' w w' p q. (one p.0 q.0, refl))

pub next_at_held : Held next-at.ended (λ M 𝓤. next-at.clauses {M = M} {𝓤 = 𝓤})
next_at_held M 𝓤 𝓛 mem run κs a = by_facts 𝓤 (λ z z' w w' p q. (one_said said_next next_from next_back p q, refl))

pub check_book_held : Held check-book.ended (λ M 𝓤. check-book.clauses {M = M} {𝓤 = 𝓤})
check_book_held M 𝓤 𝓛 mem run κs a = by_facts 𝓤 (λ z z' w w' p q. (one_said said_checked checked_from checked_back p q, refl))

pub seek_year_held : Held seek-year.ended (λ M 𝓤. seek-year.clauses {M = M} {𝓤 = 𝓤})
seek_year_held M 𝓤 𝓛 mem run κs a = by_facts 𝓤 (λ z z' w w' p q. (one_said said_sought sought_from sought_back p q, refl))

pub one_part : {lent : Bor (List ℕ)} {b : List ℕ} {start : ℕ} {r r' : Bor (List ℕ)} → PartIs lent b start r → PartIs lent b start r' → ◌≡◌ {A = List ℕ × (ℕ × ℕ)} (r.now, r.ref_ptr) (r'.now, r'.ref_ptr)
one_part p q = pair≡ (one p.bytes q.bytes) (one p.place q.place)

-- a part of the lent book is seen as its bytes and their place
pub year_part_held : Seen year-part.ended (λ κs. List ℕ × (ℕ × ℕ)) (λ κs r. (r.now, r.ref_ptr)) (λ M 𝓤. year-part.clauses {M = M} {𝓤 = 𝓤})
year_part_held M 𝓤 𝓛 mem run κs a = by_facts 𝓤 (λ z z' w w' p q. (one_part p q, refl))

-- ---- the reader

-- the reader itself, on the same lent slice
pub open_held : Held reader-open.ended (λ M 𝓤. reader-open.clauses {M = M} {𝓤 = 𝓤})
open_held M 𝓤 𝓛 mem run κs a = by_facts 𝓤 (λ z z' w w' p q. (one p q, refl))

-- what a call hands out, seen as the year that is found and its part's bytes with their place
abbrev pub Shown : Type 0
Shown = Result (Option (NextYear × (List ℕ × (ℕ × ℕ)))) Fault

pub shown : Result (Option Handed) Fault → Shown
shown (Ok (Some handed)) = Ok (Some (handed.year, (handed.part.now, handed.part.ref_ptr)))
shown (Ok None) = Ok None
shown (Err fault) = Err fault

shown_by : Next → List ℕ × (ℕ × ℕ) → Shown
shown_by (next_year e l) part = Ok (Some (record { end = e; least = l }, part))
shown_by book_end part = Ok None
shown_by (stop n at) part = Err (fault_of n at)

module _ (before : Reader) where
  part_of_it : List ℕ × (ℕ × ℕ)
  part_of_it = (hands_out before, place_in before.book (handed_start before.last.end (finds before)))

  shown_lem : (after : Reader) (r : Result (Option Handed) Fault) → HandsOn before after r → shown r ≡ shown_by (said_handed r) part_of_it
  unfolding shown shown_by part_of_it
  shown_lem after (Ok (Some handed)) h = ap (λ x. Ok (Some (handed.year, x))) (pair≡ h.part.bytes h.part.place)
  shown_lem after (Ok None) h = refl
  shown_lem after (Err fault) h = ap Err (sym (fault_back fault))

  one_handed : {after after' : Reader} {r r' : Result (Option Handed) Fault} → HandsOn before after r → HandsOn before after' r' → shown r ≡ shown r'
  one_handed h h' = shown_lem _ _ h ∙ (ap (λ n. shown_by n part_of_it) (one h.found h'.found) ∙ sym (shown_lem _ _ h'))

pub next_held : Seen reader-next.ended (λ κs. Shown) (λ κs r. shown r) (λ M 𝓤. reader-next.clauses {M = M} {𝓤 = 𝓤})
next_held M 𝓤 𝓛 mem run κs a = by_facts 𝓤 (λ z z' w w' p q. (one_handed _ p q, pair≡ (one p.reader q.reader) refl))
