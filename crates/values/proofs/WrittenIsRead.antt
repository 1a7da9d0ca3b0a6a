-- A written year is accepted, whatever follows it, and reads back to the same N, day name, mansion, days and minutes; a year that
-- the writer works out is always accepted. Assumes nothing.
use mathlib.Core.Bool.{false, ◌||◌}
use mathlib.Core.List.{List, [], ◌∷◌, ◌++◌, map}
use mathlib.Core.Path.{◌≡◌, refl, ◌∙◌, ap}
use Prim.Native.Nat.{ℕ, suc, ◌+◌, ◌*◌, ◌/◌, ◌%◌, ◌≤◌, ◌<◌}
use native.Mathlib.Omega.{arith}
use borrow.Author.Tests.{ltb-false}
use lib.Dec.{ltb}
use lib.IntN.{ℤ}
use lib.ListN.{length}
use Rattle.law.specs.Document.{epicycles, bad_year, bad_day, bad_minute, TermValues, term_values}
use Rattle.law.specs.Index.{year_index, day_index}
use Rattle.law.specs.Book.{BookYear, sound, two_at, record_size, head_size, year_from, terms_of, terms_in, bytes_of, values_in, bad_term_values, any_bad, bad_values, worked_year}
use Rattle.reasoning.proofs.InOrder.{in_order_length}
use Rattle.reasoning.proofs.Answers.{both_no}
use Rattle.book.proofs.YearSteps.{SoundTerms, SoundYear, sound_year}
use Rattle.units.proofs.Counts.{count_le, count_back}
use Rattle.values.proofs.WorkedFits.{worked_fits}

-- values that the writer does not refuse
pub record Fits (v : BookYear) : Type 0 where
  pub year : bad_year v.year_n ≡ false
  pub rest : bad_values v ≡ false
  pub all : length v.year_terms ≡ 24

-- counts aside
abbrev pub uncounted : TermValues → TermValues
uncounted t = record { day_of_term = t.day_of_term; minute_of_term = t.minute_of_term; count_of_term = 0 }

abbrev pub counts_aside : BookYear → BookYear
counts_aside v = record { year_n = v.year_n; year_name = v.year_name; year_mansion = v.year_mansion; year_terms = map uncounted v.year_terms }

-- a year's bytes stand before the rest
terms_before : (k : ℕ) (ts : List TermValues) (r : List ℕ) → terms_of k ts r ≡ terms_of k ts [] ++ r
unfolding terms_of
terms_before k [] r = refl
terms_before k (t ∷ ts) r = rw (terms_before (suc k) ts r) refl

terms_long : (k : ℕ) (ts : List TermValues) → length (terms_of k ts []) ≡ length ts * 6
unfolding terms_of
terms_long k [] = refl
terms_long k (t ∷ ts) = omega (arith, terms_long (suc k) ts)

module _ (v : BookYear) where
  pub bytes_before : (r : List ℕ) → bytes_of v r ≡ bytes_of v [] ++ r
  unfolding bytes_of
  bytes_before r = rw (terms_before 0 v.year_terms r) refl

  pub bytes_long : length v.year_terms ≡ 24 → length (bytes_of v []) ≡ 149
  unfolding bytes_of
  bytes_long h = omega (arith, terms_long 0 v.year_terms)

pub two_back : (x : ℕ) → x < 65_536 → x / 256 % 256 * 256 + x % 256 ≡ x
two_back x h = omega arith

-- a term that is not bad
pub record TermFits (t : TermValues) : Type 0 where
  pub day : bad_day t.day_of_term ≡ false
  pub count : day_index t.day_of_term ≤ 374
  pub minute : t.minute_of_term ≤ 1_439

pub term_fits : (t : TermValues) → bad_term_values t ≡ false → TermFits t
term_fits t h =
    let p = both_no (bad_day t.day_of_term) (bad_minute t.minute_of_term) h in
    record { day = p.0; count = count_le 4 370 t.day_of_term p.0; minute = ltb-false 1_439 t.minute_of_term p.1 }

terms_good : (ts : List TermValues) (k : ℕ) (r : List ℕ) → any_bad ts ≡ false → SoundTerms (length ts) k (terms_of k ts r)
unfolding terms_of SoundTerms any_bad
terms_good [] k r h = tt
terms_good (t ∷ ts) k r h =
    let p = both_no (bad_term_values t) (any_bad ts) h in
    let f = term_fits t p.0 in
    (record { kind = refl; room = omega arith; turn = refl; day = omega (arith, f.count); minute = omega (arith, f.minute) }, terms_good ts (suc k) r p.1)

terms_back : (ts : List TermValues) (k : ℕ) (r : List ℕ) → any_bad ts ≡ false → terms_in (length ts) (terms_of k ts r) ≡ map uncounted ts
unfolding terms_of terms_in any_bad
terms_back [] k r h = refl
terms_back (t ∷ ts) k r h =
    let p = both_no (bad_term_values t) (any_bad ts) h in
    let f = term_fits t p.0 in
    rw (two_back (day_index t.day_of_term) (omega (arith, f.count)), two_back t.minute_of_term (omega (arith, f.minute)), count_back 4 370 t.day_of_term f.day, terms_back ts (suc k) r p.1)

-- the values' ranges
pub record Ranges (v : BookYear) : Type 0 where
  pub name : v.year_name ≤ 59
  pub duty : v.year_mansion ≤ 27
  pub terms : any_bad v.year_terms ≡ false

pub ranges : (v : BookYear) → bad_values v ≡ false → Ranges v
unfolding bad_values
ranges v h =
    let p = both_no (ltb 59 v.year_name) (ltb 27 v.year_mansion || any_bad v.year_terms) h in
    let q = both_no (ltb 27 v.year_mansion) (any_bad v.year_terms) p.1 in
    record { name = ltb-false 59 v.year_name p.0; duty = ltb-false 27 v.year_mansion q.0; terms = q.1 }

module _ (v : BookYear) (r : List ℕ) (f : Fits v) where
  number_le : year_index v.year_n ≤ 4_000
  number_le = count_le 2_000 2_000 v.year_n f.year

  pub bytes_number : two_at (bytes_of v r) 1 ≡ year_index v.year_n
  unfolding bytes_of
  bytes_number = two_back (year_index v.year_n) (omega (arith, number_le))

  pub bytes_size : head_size (bytes_of v r) ≡ 5
  unfolding bytes_of record_size
  bytes_size = refl

  pub written_sound : (least : ℕ) → least ≤ year_index v.year_n → SoundYear least (bytes_of v r)
  unfolding bytes_of record_size
  written_sound least h =
      let g = ranges v f.rest in
      let n = number_le in
      record {
        head = record { kind = refl; size = refl; room = omega arith; turn = omega arith; number = omega arith; name = g.name; mansion = g.duty };
        terms = rw f.all at (terms_good v.year_terms 0 r g.terms);
      }

  -- accepted
  pub written_accepted : (least at : ℕ) → least ≤ year_index v.year_n → year_from least at (bytes_of v r) ≡ sound (at + 149)
  written_accepted least at h = sound_year least at (bytes_of v r) (written_sound least h) ∙ ap (λ (z : ℕ). sound (at + (z + 144))) bytes_size

  -- and read back
  pub written_reads_back : values_in (bytes_of v r) ≡ counts_aside v
  unfolding bytes_of record_size values_in
  written_reads_back =
      let g = ranges v f.rest in
      rw (two_back (year_index v.year_n) (omega (arith, number_le)), count_back 2_000 2_000 v.year_n f.year, rw f.all at (terms_back v.year_terms 0 r g.terms))

-- a year worked out
module _ (e : ℕ) (o : e ≤ epicycles) (N : ℤ) (h : bad_year N ≡ false) where
  pub worked_year_fits : Fits (worked_year e N)
  unfolding worked_year
  worked_year_fits = record { year = h; rest = worked_fits e o N h; all = in_order_length (term_values e N) 24 }

  pub worked_accepted : (r : List ℕ) → year_from 0 0 (bytes_of (worked_year e N) r) ≡ sound 149
  worked_accepted r = written_accepted (worked_year e N) r worked_year_fits 0 0 (omega arith)

  pub worked_reads_back : (r : List ℕ) → values_in (bytes_of (worked_year e N) r) ≡ counts_aside (worked_year e N)
  worked_reads_back r = written_reads_back (worked_year e N) r worked_year_fits
