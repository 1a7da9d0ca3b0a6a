-- A sound book is written years whose numbers rise, and the reader hands out the bytes of each. Assumes nothing.
use mathlib.Core.Bool.{true}
use mathlib.Core.List.{List, [], ◌∷◌, map}
use mathlib.Core.Path.{◌≡◌, refl, sym, subst, ◌∙◌, ap}
use Prim.Native.Nat.{ℕ, zero, suc, ◌+◌, ◌-◌, ◌≤◌, ◌<◌}
use native.Mathlib.Decide.{dec_lt}
use native.Mathlib.Omega.{arith}
use lib.ListN.{length, take, drop, length-append, length-drop}
use lib.Seq.{take_at, drop_at, drop-drop}
use Rattle.law.specs.Index.{year_index}
use Rattle.law.specs.Book.{BookYear, sound, next_year, two_at, least_after, year_from, book_from, book_of, next_at, parts_from, parts_of, bytes_of, values_in}
use Rattle.units.proofs.Counts.{back_count}
use Rattle.book.proofs.BookSteps.{next_end, next_in, is_sound}
use Rattle.book.proofs.WholeBooks.{handed, by_dec}
use Rattle.values.proofs.WrittenIsRead.{bytes_before, bytes_long, bytes_number, Fits, written_accepted}
use Rattle.values.proofs.ReadIsWritten.{Bytes}
use Rattle.values.proofs.ReturnTrips.{read_fits}
use Rattle.values.proofs.RisingYears.{all_of, Rising}
use Rattle.values.proofs.BookAgain.{years_in, book_again}

-- one year's bytes
abbrev pub year_bytes : BookYear → List ℕ
year_bytes v = bytes_of v []

-- ---- the values of a sound book's years rise

number_there : (b : List ℕ) → year_index (values_in b).year_n ≡ two_at b 1
unfolding values_in
number_there b = back_count 2_000 (two_at b 1)

rises_from : (calls : ℕ) (s : List ℕ) (at least : ℕ) → is_sound (book_from least at (drop at s)) ≡ true → Rising least (years_in calls s at least)
unfolding years_in
rises_from zero s at least o = tt
rises_from (suc calls) s at least o =
    by_dec (dec_lt at (length s))
    (λ w.
    let m = handed s at least w o in
    let y = m.went.year in
    let h = y.head in
    let n : year_index (values_in (drop at s)).year_n ≡ two_at (drop at s) 1 = number_there (drop at s) in
    let i : Rising m.after (years_in calls s m.end m.after) = rises_from calls s m.end m.after m.sound_on in
    let l : m.after ≡ year_index (values_in (drop at s)).year_n + 1 = m.went.after ∙ ap (λ (x : ℕ). x + 1) (sym n) in
    rw m.next (read_fits least (drop at s) y, (omega (arith, n, h.turn), subst (λ (x : ℕ). Rising x (years_in calls s m.end m.after)) l i)))
    (λ w. let l : length s ≤ at = omega arith in rw (next_end s at least l) tt)

-- ---- the reader hands out the bytes of rising years

module _ (v : BookYear) (r : List ℕ) (f : Fits v) where
  pub own_part : take 149 (bytes_of v r) ≡ year_bytes v
  own_part = ap (take 149) (bytes_before v r) ∙ take_at (year_bytes v) r 149 (bytes_long v f.all)

  pub rest_after : drop 149 (bytes_of v r) ≡ r
  rest_after = ap (drop 149) (bytes_before v r) ∙ drop_at (year_bytes v) r 149 (bytes_long v f.all)

  pub long_enough : length (bytes_of v r) ≡ 149 + length r
  long_enough = ap length (bytes_before v r) ∙ (length-append (year_bytes v) r ∙ ap (λ (n : ℕ). n + length r) (bytes_long v f.all))

pub rising_parts : (vs : List BookYear) (calls : ℕ) (s : List ℕ) (at least : ℕ) → Rising least vs → drop at s ≡ all_of vs → length vs ≤ calls
    → parts_from calls s at least ≡ map year_bytes vs
unfolding parts_from all_of
rising_parts [] zero s at least g q c = refl
rising_parts [] (suc calls) s at least g q c =
    let l : length s ≤ at = omega (arith, ap length q, length-drop at s) in
    rw (next_end s at least l)
rising_parts (v ∷ vs) zero s at least g q c = absurd (omega arith)
rising_parts (v ∷ vs) (suc calls) s at least g q c =
    let f = g.0 in
    let r = all_of vs in
    let n = year_index v.year_n in
    let w : at < length s = omega (arith, ap length q, length-drop at s, long_enough v r f) in
    let a : sound (at + 149) ≡ year_from least at (drop at s) = sym (ap (year_from least at) q ∙ written_accepted v r f least at g.1.0) in
    let l : least_after (drop at s) ≡ n + 1 = ap least_after q ∙ ap (λ (x : ℕ). x + 1) (bytes_number v r f) in
    let found : next_at s at least ≡ next_year (at + 149) (n + 1) = sym (next_in s at least w a) ∙ ap (next_year (at + 149)) l in
    let d : drop (at + 149) s ≡ r = sym (drop-drop 149 at s) ∙ (ap (drop 149) q ∙ rest_after v r f) in
    let p : take (at + 149 - at) (drop at s) ≡ year_bytes v =
    let z : at + 149 - at ≡ 149 = omega arith in ap (λ (x : ℕ). take x (drop at s)) z ∙ (ap (take 149) q ∙ own_part v r f) in
    let i = rising_parts vs calls s (at + 149) (n + 1) g.1.1 d (omega arith) in
    rw found (ap (λ (x : List ℕ). x ∷ parts_from calls s (at + 149) (n + 1)) p ∙ ap (λ (x : List (List ℕ)). year_bytes v ∷ x) i)

-- ---- a sound book

years_few : (vs : List BookYear) (least : ℕ) → Rising least vs → length vs ≤ length (all_of vs)
unfolding all_of
years_few [] least g = omega arith
years_few (v ∷ vs) least g = omega (arith, years_few vs (year_index v.year_n + 1) g.1.1, long_enough v (all_of vs) g.0)

pub parts_of_rising : (vs : List BookYear) → Rising 0 vs → parts_of (all_of vs) ≡ map year_bytes vs
parts_of_rising vs g = rising_parts vs (length (all_of vs)) (all_of vs) 0 0 g refl (years_few vs 0 g)

-- the years that its parts are the bytes of
pub record YearsOf (s : List ℕ) : Type 0 where
  pub values : List BookYear
  pub rises : Rising 0 values
  pub parts : parts_of s ≡ map year_bytes values

pub years_of : (s : List ℕ) → Bytes s → is_sound (book_of s) ≡ true → YearsOf s
years_of s h o =
    let vs = years_in (length s) s 0 0 in
    let g = rises_from (length s) s 0 0 o in
    record { values = vs; rises = g; parts = subst (λ (b : List ℕ). parts_of b ≡ map year_bytes vs) (book_again s h o) (parts_of_rising vs g) }
