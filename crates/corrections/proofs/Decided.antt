-- What seeking in the corrections says decides: found there, the main book is still checked; else the main book's own seek is the
-- answer. And what is found lies within its book. Assumes nothing.
use mathlib.Core.Bool.{Bool, true, false, cond}
use mathlib.Core.List.{List}
use mathlib.Core.Path.{◌≡◌, refl, sym, subst}
use Prim.Native.Nat.{ℕ}
use native.Mathlib.Omega.{arith}
use lib.IntN.{ℤ}
use lib.ListN.{length}
use Rattle.law.specs.Document.{bad_year}
use Rattle.law.specs.Index.{year_index}
use Rattle.law.specs.Book.{Checked, sound, faulty, book_of, Sought, found, unsound, no_year, seek_in, if_sound, seek_of}
use Rattle.corrections.specs.Corrections.{the_corrections, the_main, Corrected, found_in, unsound_in, in_neither, said_of, checked_first, else_from_main, corrected_of}
use Rattle.book.proofs.SeekFinds.{is_found, found_or_12, found_inside}
use Rattle.corrections.specs.Parts.{LiesWithin}

-- by what seeking in the corrections says, the main book's check, and seeking in the main book
abbrev pub by_corrections : Sought → Checked → Sought → Corrected
by_corrections (found start end) main inMain = checked_first the_main main (found_in the_corrections start end)
by_corrections (unsound number byte) main inMain = unsound_in the_corrections number byte
by_corrections (no_year number) main inMain = said_of the_main inMain

-- `seek_of` and `corrected_of` over what they test: N, the two checks, and what is sought in each book
abbrev pub sought_by : Bool → Checked → Sought → Sought
sought_by outside book sought = cond outside (no_year 1) (if_sound book sought)

abbrev pub corrected_by : Bool → Checked → Checked → Sought → Sought → Corrected
corrected_by outside corrections main x y =
    cond outside (in_neither 1)
    (checked_first the_corrections corrections
    (checked_first the_main main (else_from_main (sought_by outside corrections x) (sought_by outside main y))))

by_cases : (outside : Bool) (corrections main : Checked) (x y : Sought) → (is_found x ≡ false → x ≡ no_year 12)
    → corrected_by outside corrections main x y ≡ by_corrections (sought_by outside corrections x) main (sought_by outside main y)
by_cases true corrections main x y found-or = refl
by_cases false (faulty n p) main x y found-or = refl
by_cases false (sound e) (sound e') (found a b) y found-or = refl
by_cases false (sound e) (faulty n p) (found a b) y found-or = refl
by_cases false (sound e) main (unsound n p) y found-or = absurd (let u = found-or refl in let z : ◌≡◌ {A = ℕ} 0 1 = cc in omega arith)
by_cases false (sound e) (sound e') (no_year n) y found-or = refl
by_cases false (sound e) (faulty m p) (no_year n) y found-or = refl

module _ (corrections main : List ℕ) (N : ℤ) where
  pub decided : corrected_of corrections main N ≡ by_corrections (seek_of corrections N) (book_of main) (seek_of main N)
  unfolding corrected_of seek_of
  decided =
      by_cases (bad_year N) (book_of corrections) (book_of main) (seek_in (year_index N) 0 corrections) (seek_in (year_index N) 0 main)
      (found_or_12 (length corrections) (year_index N) 0 corrections)

  -- ---- what is found lies within its book

  in_corrections : (c : Checked) (a e : ℕ) → seek_of corrections N ≡ found a e → LiesWithin corrections main (checked_first the_main c (found_in the_corrections a e))
  in_corrections (sound end) a e h = let w = found_inside corrections N a e h in (omega (arith, w.0), w.1)
  in_corrections (faulty n p) a e h = tt

  in_main : (x : Sought) → seek_of main N ≡ x → LiesWithin corrections main (said_of the_main x)
  in_main (found a e) h = let w = found_inside main N a e h in (omega (arith, w.0), w.1)
  in_main (unsound n p) h = tt
  in_main (no_year n) h = tt

  in_either : (x : Sought) → seek_of corrections N ≡ x → LiesWithin corrections main (by_corrections x (book_of main) (seek_of main N))
  in_either (found a e) h = in_corrections (book_of main) a e h
  in_either (unsound n p) h = tt
  in_either (no_year n) h = in_main (seek_of main N) refl

  pub lies_within : LiesWithin corrections main (corrected_of corrections main N)
  lies_within = subst (LiesWithin corrections main) (sym decided) (in_either (seek_of corrections N) refl)
