-- What seeking in one of the two books hands out is what is handed out, where that book decides. Assumes nothing.
use mathlib.Core.Bool.{true}
use mathlib.Core.List.{List}
use mathlib.Core.Path.{◌≡◌, refl, sym, ◌∙◌, subst}
use Prim.Native.Nat.{ℕ}
use native.Mathlib.Omega.{arith}
use denote.Ref.{Bor}
use lib.IntN.{ℤ}
use mir.Syntax.{w64}
use mir.Val.{SFits}
use mir.Facts.{to_z-of_z}
use Rattle.std.specs.Prelude.{Result, Ok, Err}
use Rattle.law.specs.Book.{Checked, sound, faulty, book_of, Sought, found, unsound, no_year, seek_of}
use Rattle.units.specs.Said.{number_of}
use Rattle.units.proofs.Machine.{read}
use Rattle.units.specs.declared.refusal.Refusal.{Refusal}
use Rattle.book.specs.declared.fault.Fault.{Fault}
use Rattle.book.specs.Reader.{PartSought}
use Rattle.book.proofs.SeekFinds.{is_found}
use Rattle.corrections.specs.Corrections.{Which, the_corrections, the_main, found_in, unsound_in, in_neither, said_of, corrected_of, that_one}
use Rattle.corrections.specs.declared.Which.{Which as WhichAnswer}
use Rattle.corrections.specs.declared.Which.TheVariants as which-answer
use Rattle.corrections.specs.declared.CorrectedYear.{CorrectedYear}
use Rattle.corrections.specs.declared.NoYear.{NoYear}
use Rattle.corrections.specs.declared.NoYear.TheVariants.{Unsound, Refused}
use Rattle.corrections.specs.Said.{said_which}
use Rattle.corrections.specs.Parts.{PartCorrected, HandedOut, HandedOf}
use Rattle.corrections.proofs.Decided.{by_corrections, decided}

-- ---- what one book says decides what was sought there

found_there : (which w : Which) (a e : ℕ) (x : Sought) → found_in w a e ≡ said_of which x → is_found x ≡ true
found_there which w a e (found b f) q = refl
found_there which w a e (unsound n p) q = absurd (let z : ◌≡◌ {A = ℕ} 0 1 = cc in omega arith)
found_there which w a e (no_year n) q = absurd (let z : ◌≡◌ {A = ℕ} 0 1 = cc in omega arith)

module _ (y : Sought) where
  sound_lem : {c : Checked} {e : ℕ} (x : Sought) → is_found x ≡ true → sound e ≡ c → by_corrections x c y ≡ said_of the_corrections x
  sound_lem (found a b) f q = rw (← q) refl
  sound_lem (unsound n p) f q = absurd (let z : ◌≡◌ {A = ℕ} 0 1 = cc in omega arith)
  sound_lem (no_year n) f q = absurd (let z : ◌≡◌ {A = ℕ} 0 1 = cc in omega arith)

  faulty_lem : {c : Checked} {n p : ℕ} (x : Sought) → is_found x ≡ true → faulty n p ≡ c → unsound_in the_main n p ≡ by_corrections x c y
  faulty_lem (found a b) f q = rw (← q) refl
  faulty_lem (unsound n p) f q = absurd (let z : ◌≡◌ {A = ℕ} 0 1 = cc in omega arith)
  faulty_lem (no_year n) f q = absurd (let z : ◌≡◌ {A = ℕ} 0 1 = cc in omega arith)

  unsound_lem : (c : Checked) {w : Which} {n p : ℕ} (x : Sought) → unsound_in w n p ≡ said_of the_corrections x → by_corrections x c y ≡ said_of the_corrections x
  unsound_lem c (found a b) q = absurd (let z : ◌≡◌ {A = ℕ} 0 1 = cc in omega arith)
  unsound_lem c (unsound n p) q = refl
  unsound_lem c (no_year n) q = absurd (let z : ◌≡◌ {A = ℕ} 0 1 = cc in omega arith)

  lack_lem : (c : Checked) {k : ℕ} (x : Sought) → in_neither k ≡ said_of the_corrections x → by_corrections x c y ≡ said_of the_main y
  lack_lem c (found a b) q = absurd (let z : ◌≡◌ {A = ℕ} 0 1 = cc in omega arith)
  lack_lem c (unsound n p) q = absurd (let z : ◌≡◌ {A = ℕ} 0 1 = cc in omega arith)
  lack_lem c (no_year n) q = refl

-- ---- what is handed out

module _ (corrections main : Bor (List ℕ)) (N : ℤ) where
  part_there : (which : Which) (x : Sought) (part : Bor (List ℕ)) → is_found x ≡ true → PartSought (that_one which corrections main) x part
      → PartCorrected corrections main (said_of which x) part
  part_there which (found a e) part f p = p
  part_there which (unsound n q) part f p = absurd (let z : ◌≡◌ {A = ℕ} 0 1 = cc in omega arith)
  part_there which (no_year n) part f p = absurd (let z : ◌≡◌ {A = ℕ} 0 1 = cc in omega arith)

  as_sought : (which : WhichAnswer) → corrected_of corrections.now main.now N ≡ said_of (said_which which) (seek_of (that_one (said_which which) corrections main).now N)
      → (r : Result CorrectedYear NoYear) → HandedOf which (that_one (said_which which) corrections main) N r → HandedOut corrections main N r
  as_sought which q (Ok year) h =
      record {
        answer = h.answer ∙ sym q;
        part = rw q (part_there (said_which which) _ year.part (found_there (said_which which) (said_which year.which) year.start year.end _ h.answer) h.part);
      }
  as_sought which q (Err why) h = record { answer = h.answer ∙ sym q; part = tt }

  module _ (f : SFits w64 N) where
    -- what the call says of one of them, to which n came as the machine reads it
    abbrev Says : WhichAnswer → Result CorrectedYear NoYear → Type 0
    Says which r = HandedOf which (that_one (said_which which) corrections main) (read w64 N) r

    of_n : (which : WhichAnswer) (r : Result CorrectedYear NoYear) → Says which r → HandedOf which (that_one (said_which which) corrections main) N r
    of_n which r h = subst (λ M. HandedOf which (that_one (said_which which) corrections main) M r) (to_z-of_z f) h

    there : (year : CorrectedYear) → HandedOf which-answer.Corrections corrections N (Ok year) → is_found (seek_of corrections.now N) ≡ true
    there year h = found_there the_corrections (said_which year.which) year.start year.end _ h.answer

    pub main_sound : (year : CorrectedYear) (e : ℕ) → Says which-answer.Corrections (Ok year) → sound e ≡ book_of main.now → HandedOut corrections main N (Ok year)
    main_sound year e s q =
        let h = of_n which-answer.Corrections (Ok year) s in
        as_sought which-answer.Corrections (decided corrections.now main.now N ∙ sound_lem _ _ (there year h) q) (Ok year) h

    pub main_unsound : (year : CorrectedYear) (fault : Fault) → Says which-answer.Corrections (Ok year) → faulty (number_of fault.refusal) fault.byte ≡ book_of main.now
        → HandedOut corrections main N (Err (Unsound which-answer.Main fault))
    main_unsound year fault s q =
        let h = of_n which-answer.Corrections (Ok year) s in
        record { answer = faulty_lem _ _ (there year h) q ∙ sym (decided corrections.now main.now N); part = tt }

    pub corrections_unsound : (which : WhichAnswer) (fault : Fault) → Says which-answer.Corrections (Err (Unsound which fault)) → HandedOut corrections main N (Err (Unsound which fault))
    corrections_unsound which fault s =
        let h = of_n which-answer.Corrections (Err (Unsound which fault)) s in
        as_sought which-answer.Corrections (decided corrections.now main.now N ∙ unsound_lem _ _ _ h.answer) (Err (Unsound which fault)) h

    pub corrections_lack : (refusal : Refusal) (r : Result CorrectedYear NoYear) → Says which-answer.Corrections (Err (Refused refusal)) → Says which-answer.Main r
        → HandedOut corrections main N r
    corrections_lack refusal r s t =
        let h = of_n which-answer.Corrections (Err (Refused refusal)) s in
        as_sought which-answer.Main (decided corrections.now main.now N ∙ lack_lem _ _ _ h.answer) r (of_n which-answer.Main r t)

-- what the code needs
pub ruleset one_book = (main_sound, main_unsound, corrections_unsound, corrections_lack)
