-- The public function's promise holds its answer fast: what is said, the part's bytes and their place. Assumes nothing.
use mathlib.Core.Path.{◌≡◌, refl, sym, ◌∙◌, ap, ap₂}
use mathlib.Core.List.{List}
use Prim.Native.Nat.{ℕ}
use borrow.Fn.Enter.{pair≡}
use denote.Ref.{Bor}
use lib.IntN.{ℤ}
use Rattle.std.specs.Prelude.{Result, Ok, Err}
use Rattle.reasoning.proofs.HeldFast.{Seen, by_facts, one}
use Rattle.law.specs.Book.{part_of, part_start}
use Rattle.units.proofs.HeldFast.{refusal_of, refusal_back}
use Rattle.book.specs.Reader.{place_in}
use Rattle.book.proofs.HeldFast.{fault_of, fault_back}
use Rattle.corrections.specs.Corrections.{Which, the_corrections, the_main, Corrected, found_in, unsound_in, in_neither, corrected_of, that_one, came_from, sought_there}
use Rattle.corrections.specs.declared.Which.{Which as WhichAnswer}
use Rattle.corrections.specs.declared.Which.TheVariants as which-answer
use Rattle.corrections.specs.declared.CorrectedYear.{CorrectedYear}
use Rattle.corrections.specs.declared.NoYear.{NoYear}
use Rattle.corrections.specs.declared.NoYear.TheVariants.{Unsound, Refused}
use Rattle.corrections.specs.Said.{said_which, said_corrected}
use Rattle.corrections.specs.Parts.{HandedOut}
use Rattle.corrections.specs.contracts.corrected_year as corrected-year

-- the readings of answers can be taken back
abbrev which_from : Which → WhichAnswer
which_from the_corrections = which-answer.Corrections
which_from the_main = which-answer.Main

which_back : (which : WhichAnswer) → which_from (said_which which) ≡ which
which_back which-answer.Corrections = refl
which_back which-answer.Main = refl

-- what is handed out, seen as the part's bytes with their place, its book, and where it starts and ends; or the refusal
abbrev pub Shown : Type 0
Shown = Result ((List ℕ × (ℕ × ℕ)) × (WhichAnswer × (ℕ × ℕ))) NoYear

pub shown : Result CorrectedYear NoYear → Shown
shown (Ok year) = Ok ((year.part.now, year.part.ref_ptr), (year.which, (year.start, year.end)))
shown (Err why) = Err why

shown_by : Corrected → List ℕ × (ℕ × ℕ) → Shown
shown_by (found_in which start end) part = Ok (part, (which_from which, (start, end)))
shown_by (unsound_in which number byte) part = Err (Unsound (which_from which) (fault_of number byte))
shown_by (in_neither number) part = Err (Refused (refusal_of number))

module _ (corrections main : Bor (List ℕ)) (N : ℤ) where
  -- the part, as it is the one of this answer
  part_by : Corrected → List ℕ × (ℕ × ℕ)
  part_by answer =
      let lent = that_one (came_from answer) corrections main in
      let sought = sought_there answer in
      (part_of lent.now sought, place_in lent (part_start sought))

  part_of_it : List ℕ × (ℕ × ℕ)
  part_of_it = part_by (corrected_of corrections.now main.now N)

  shown_lem : (r : Result CorrectedYear NoYear) → HandedOut corrections main N r → shown r ≡ shown_by (said_corrected r) part_of_it
  unfolding shown shown_by part_by part_of_it
  shown_lem (Ok year) h = ap₂ (λ part which. Ok (part, (which, (year.start, year.end)))) (pair≡ h.part.bytes h.part.place) (sym (which_back year.which))
  shown_lem (Err (Unsound which fault)) h = ap₂ (λ w f. Err (Unsound w f)) (sym (which_back which)) (sym (fault_back fault))
  shown_lem (Err (Refused r)) h = ap (λ f. Err (Refused f)) (sym (refusal_back r))

  one_handed : {r r' : Result CorrectedYear NoYear} → HandedOut corrections main N r → HandedOut corrections main N r' → shown r ≡ shown r'
  one_handed {r} {r'} h h' = shown_lem r h ∙ (ap (λ n. shown_by n part_of_it) (one h.answer h'.answer) ∙ sym (shown_lem r' h'))

pub corrected_year_held : Seen corrected-year.ended (λ κs. Shown) (λ κs r. shown r) (λ M 𝓤. corrected-year.clauses {M = M} {𝓤 = 𝓤})
corrected_year_held M 𝓤 𝓛 mem run κs a = by_facts 𝓤 (λ z z' w w' p q. (one_handed _ _ _ p q, refl))
