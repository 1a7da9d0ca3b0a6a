-- The years of a sound book, read into values and written again one after the other, give the same book. Assumes nothing.
use mathlib.Core.Bool.{true}
use mathlib.Core.List.{List, [], ◌∷◌}
use mathlib.Core.Path.{◌≡◌, sym}
use Prim.Native.Nat.{ℕ, zero, suc, ◌+◌, ◌≤◌}
use native.Mathlib.Decide.{dec_lt}
use native.Mathlib.Omega.{arith}
use lib.ListN.{length, drop, drop_of_length-le}
use Rattle.law.specs.Book.{BookYear, Next, next_year, book_end, stop, book_from, book_of, next_at, values_in}
use Rattle.book.proofs.BookSteps.{next_end, is_sound}
use Rattle.values.proofs.ReadIsWritten.{Bytes, bytes_drop, written_again}
use Rattle.book.proofs.WholeBooks.{handed, by_dec}
use Rattle.values.proofs.RisingYears.{all_of}

abbrev valued : Next → List ℕ → ℕ → (ℕ → ℕ → List BookYear) → List BookYear
valued (next_year e least) s at more = values_in (drop at s) ∷ more e least
valued book_end s at more = []
valued (stop n p) s at more = []

-- the values of the years that so many calls hand out, from a byte on
unfoldable pub years_in : ℕ → List ℕ → ℕ → ℕ → List BookYear
years_in zero s at least = []
years_in (suc calls) s at least = valued (next_at s at least) s at (years_in calls s)

again_from : (calls : ℕ) (s : List ℕ) (at least : ℕ) → Bytes s → length s ≤ at + calls → is_sound (book_from least at (drop at s)) ≡ true
    → all_of (years_in calls s at least) ≡ drop at s
unfolding years_in all_of
again_from zero s at least h g o = let l : length s ≤ at = omega arith in sym (drop_of_length-le s l)
again_from (suc calls) s at least h g o =
    by_dec (dec_lt at (length s))
    (λ w.
    let m = handed s at least w o in
    let i = again_from calls s m.end m.after h (omega (arith, m.went)) m.sound_on in
    rw m.next (rw (i, ← m.went.left) (written_again least (drop at s) (bytes_drop s at h) m.went.year)))
    (λ w. let l : length s ≤ at = omega arith in rw (next_end s at least l) (sym (drop_of_length-le s l)))

pub book_again : (s : List ℕ) → Bytes s → is_sound (book_of s) ≡ true → all_of (years_in (length s) s 0 0) ≡ s
book_again s h o = again_from (length s) s 0 0 h (omega arith) o
