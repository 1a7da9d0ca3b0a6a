-- With an empty sheet the answer is the main book's own seek. A year that the corrections have is handed out as the corrections' seek
-- hands it out, whenever the main book is sound; a year that they lack, as the main book's. It is 12 exactly when both books are sound
-- and neither has the year. For a year in range, a refusal names the corrections whenever they are unsound, whatever the main book is;
-- else the main book whenever that is, also where the corrections have the year. Assumes nothing.
use mathlib.Core.Bool.{Bool, true, false, cond}
use mathlib.Core.List.{List, []}
use mathlib.Core.Path.{◌≡◌, refl, sym, ◌∙◌, ap}
use Prim.Native.Nat.{ℕ}
use native.Mathlib.Omega.{arith}
use lib.IntN.{ℤ}
use Rattle.law.specs.Document.{bad_year}
use Rattle.law.specs.Index.{year_index}
use Rattle.law.specs.Book.{Checked, sound, faulty, years_from, book_of, parts_of, Sought, found, unsound, no_year, seek_from, seek_in, seek_of, part_of, part_start}
use Rattle.corrections.specs.Corrections.{Which, the_corrections, the_main, Corrected, unsound_in, in_neither, said_of, else_from_main, corrected_of, that_one, sought_there, corrected_part}
use Rattle.book.proofs.BookSteps.{is_sound}
use Rattle.book.proofs.SeekFinds.{is_found, is_among, found_exactly, absent_refused}
use Rattle.corrections.proofs.Decided.{by_corrections, sought_by, corrected_by, decided}

-- ---- over what is tested

either_refusal : (outside : Bool) (main : Checked) (inMain : Sought) → by_corrections (cond outside (no_year 1) (no_year 12)) main inMain ≡ said_of the_main inMain
either_refusal true main inMain = refl
either_refusal false main inMain = refl

from_corrections : (main : Checked) (x inMain : Sought) → is_sound main ≡ true → is_found x ≡ true → by_corrections x main inMain ≡ said_of the_corrections x
from_corrections (sound e) (found a b) inMain s f = refl
from_corrections (faulty n p) (found a b) inMain s f = absurd (let z : ◌≡◌ {A = ℕ} 0 1 = cc in omega arith)
from_corrections main (unsound n p) inMain s f = absurd (let z : ◌≡◌ {A = ℕ} 0 1 = cc in omega arith)
from_corrections main (no_year n) inMain s f = absurd (let z : ◌≡◌ {A = ℕ} 0 1 = cc in omega arith)

-- where it is 12
record NoneOf (outside : Bool) (corrections main : Checked) (x y : Sought) : Type 0 where
  in_range : outside ≡ false
  corrections_sound : is_sound corrections ≡ true
  main_sound : is_sound main ≡ true
  corrections_lack : is_found (sought_by outside corrections x) ≡ false
  main_lacks : is_found (sought_by outside main y) ≡ false

lacks : (x y : Sought) → else_from_main x y ≡ in_neither 12 → (is_found x ≡ false) × (is_found y ≡ false)
lacks (found a e) y h = absurd (let z : ◌≡◌ {A = ℕ} 0 1 = cc in omega arith)
lacks (unsound n p) (found a e) h = absurd (let z : ◌≡◌ {A = ℕ} 0 1 = cc in omega arith)
lacks (unsound n p) (unsound m q) h = (refl, refl)
lacks (unsound n p) (no_year m) h = (refl, refl)
lacks (no_year n) (found a e) h = absurd (let z : ◌≡◌ {A = ℕ} 0 1 = cc in omega arith)
lacks (no_year n) (unsound m q) h = (refl, refl)
lacks (no_year n) (no_year m) h = (refl, refl)

twelve : (outside : Bool) (corrections main : Checked) (x y : Sought) → corrected_by outside corrections main x y ≡ in_neither 12 → NoneOf outside corrections main x y
twelve true corrections main x y h = absurd (let z : ◌≡◌ {A = ℕ} 1 12 = cc in omega arith)
twelve false (faulty n p) main x y h = absurd (let z : ◌≡◌ {A = ℕ} 0 1 = cc in omega arith)
twelve false (sound e) (faulty n p) x y h = absurd (let z : ◌≡◌ {A = ℕ} 0 1 = cc in omega arith)
twelve false (sound e) (sound e') x y h =
    let l = lacks x y h in record { in_range = refl; corrections_sound = refl; main_sound = refl; corrections_lack = l.0; main_lacks = l.1 }

main_at_fault : (corrections : Checked) (n p : ℕ) (x y : Sought) → is_sound corrections ≡ true → corrected_by false corrections (faulty n p) x y ≡ unsound_in the_main n p
main_at_fault (sound e) n p x y s = refl
main_at_fault (faulty m q) n p x y s = absurd (let z : ◌≡◌ {A = ℕ} 0 1 = cc in omega arith)

-- an answer of one book is still that answer
pub said_there : (which : Which) (x : Sought) → sought_there (said_of which x) ≡ x
said_there which (found a e) = refl
said_there which (unsound n p) = refl
said_there which (no_year n) = refl

-- the part handed out is the one that seeking in one book hands out: its bytes, and where it starts
pub record PartAsSought (corrections main : List ℕ) (answer : Corrected) (book : List ℕ) (sought : Sought) : Type 0 where
  pub bytes : corrected_part corrections main answer ≡ part_of book sought
  pub start : part_start (sought_there answer) ≡ part_start sought

part_of_one : (corrections main : List ℕ) (which : Which) (x : Sought) → PartAsSought corrections main (said_of which x) (that_one which corrections main) x
part_of_one corrections main which (found a e) = record { bytes = refl; start = refl }
part_of_one corrections main which (unsound n p) = record { bytes = refl; start = refl }
part_of_one corrections main which (no_year n) = record { bytes = refl; start = refl }

-- ---- the theorems

nothing_there : (N : ℤ) → seek_of [] N ≡ cond (bad_year N) (no_year 1) (no_year 12)
unfolding years_from seek_from seek_of
nothing_there N = refl

pub empty_sheet : (main : List ℕ) (N : ℤ) → corrected_of [] main N ≡ said_of the_main (seek_of main N)
empty_sheet main N =
    decided [] main N
    ∙ (ap (λ (x : Sought). by_corrections x (book_of main) (seek_of main N)) (nothing_there N) ∙ either_refusal (bad_year N) (book_of main) (seek_of main N))

pub empty_sheet_part : (main : List ℕ) (N : ℤ) → PartAsSought [] main (corrected_of [] main N) main (seek_of main N)
empty_sheet_part main N = rw (empty_sheet main N) (part_of_one [] main the_main (seek_of main N))

module _ (corrections main : List ℕ) (N : ℤ) where
  -- the corrections have the year, and the main book is sound
  pub corrected : is_sound (book_of main) ≡ true → is_found (seek_of corrections N) ≡ true → corrected_of corrections main N ≡ said_of the_corrections (seek_of corrections N)
  corrected s f = decided corrections main N ∙ from_corrections (book_of main) (seek_of corrections N) (seek_of main N) s f

  pub corrected_part_lem : is_sound (book_of main) ≡ true → is_found (seek_of corrections N) ≡ true
      → PartAsSought corrections main (corrected_of corrections main N) corrections (seek_of corrections N)
  corrected_part_lem s f = rw (corrected s f) (part_of_one corrections main the_corrections (seek_of corrections N))

  -- they lack it
  pub not_corrected : seek_of corrections N ≡ no_year 12 → corrected_of corrections main N ≡ said_of the_main (seek_of main N)
  not_corrected h = decided corrections main N ∙ ap (λ (x : Sought). by_corrections x (book_of main) (seek_of main N)) h

  pub not_corrected_part : seek_of corrections N ≡ no_year 12 → PartAsSought corrections main (corrected_of corrections main N) main (seek_of main N)
  not_corrected_part h = rw (not_corrected h) (part_of_one corrections main the_main (seek_of main N))

  -- both are sound, and neither has a year N among the parts that a reader hands out
  pub record Neither : Type 0 where
    pub in_range : bad_year N ≡ false
    pub corrections_sound : is_sound (book_of corrections) ≡ true
    pub main_sound : is_sound (book_of main) ≡ true
    pub corrections_lack : is_among (year_index N) (parts_of corrections) ≡ false
    pub main_lacks : is_among (year_index N) (parts_of main) ≡ false

  pub twelve_then_neither : corrected_of corrections main N ≡ in_neither 12 → Neither
  unfolding corrected_of seek_of
  twelve_then_neither h =
      let t = twelve (bad_year N) (book_of corrections) (book_of main) (seek_in (year_index N) 0 corrections) (seek_in (year_index N) 0 main) h in
      record {
        in_range = t.in_range;
        corrections_sound = t.corrections_sound;
        main_sound = t.main_sound;
        corrections_lack = sym (found_exactly corrections N t.in_range t.corrections_sound) ∙ t.corrections_lack;
        main_lacks = sym (found_exactly main N t.in_range t.main_sound) ∙ t.main_lacks;
      }

  pub neither_then_twelve : Neither → corrected_of corrections main N ≡ in_neither 12
  neither_then_twelve o =
      not_corrected (absent_refused corrections N o.in_range o.corrections_sound o.corrections_lack)
      ∙ ap (said_of the_main) (absent_refused main N o.in_range o.main_sound o.main_lacks)

  -- ---- the refusals of the books

  pub year_first : bad_year N ≡ true → corrected_of corrections main N ≡ in_neither 1
  unfolding corrected_of
  year_first h = rw h

  pub corrections_named : (number byte : ℕ) → bad_year N ≡ false → book_of corrections ≡ faulty number byte → corrected_of corrections main N ≡ unsound_in the_corrections number byte
  unfolding corrected_of
  corrections_named number byte h c = rw (h, c)

  pub main_named : (number byte : ℕ) → bad_year N ≡ false → is_sound (book_of corrections) ≡ true → book_of main ≡ faulty number byte
      → corrected_of corrections main N ≡ unsound_in the_main number byte
  unfolding corrected_of seek_of
  main_named number byte h s m =
      rw (h, m) (main_at_fault (book_of corrections) number byte (seek_in (year_index N) 0 corrections) (seek_in (year_index N) 0 main) s)
