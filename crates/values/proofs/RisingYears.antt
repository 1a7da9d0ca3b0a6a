-- Written years whose numbers rise, one after the other, are a sound book. Assumes nothing.
use mathlib.Core.Bool.{true}
use mathlib.Core.List.{List, [], ◌∷◌}
use mathlib.Core.Path.{◌≡◌, ◌∙◌, ap}
use Prim.Native.Nat.{ℕ, ◌+◌, ◌≤◌}
use native.Mathlib.Omega.{arith}
use lib.ListN.{drop}
use lib.Seq.{drop_at}
use Rattle.law.specs.Index.{year_index}
use Rattle.law.specs.Book.{BookYear, year_size, least_after, book_from, bytes_of}
use Rattle.book.proofs.YearSteps.{sound_year}
use Rattle.book.proofs.BookSteps.{book_none, book_more, is_sound}
use Rattle.values.proofs.WrittenIsRead.{bytes_before, bytes_long, Fits, written_sound, bytes_number, bytes_size}

-- the bytes of some years
unfoldable pub all_of : List BookYear → List ℕ
all_of [] = []
all_of (v ∷ vs) = bytes_of v (all_of vs)

-- years that may be written, their numbers rising from least on
abbrev pub Rising : ℕ → List BookYear → Type 0
Rising least [] = Unit
Rising least (v ∷ vs) = Fits v × ((least ≤ year_index v.year_n) × Rising (year_index v.year_n + 1) vs)

pub rising_accepted : (vs : List BookYear) (least at : ℕ) → Rising least vs → is_sound (book_from least at (all_of vs)) ≡ true
unfolding all_of
rising_accepted [] least at h = rw (book_none least at [] (omega arith))
rising_accepted (v ∷ vs) least at h =
    let f = h.0 in
    let r = all_of vs in
    let b = bytes_of v r in
    let y = written_sound v r f least h.1.0 in
    let m = book_more least at b y (at + year_size b) (sound_year least at b y) in
    let n : least_after b ≡ year_index v.year_n + 1 = ap (λ (x : ℕ). x + 1) (bytes_number v r f) in
    let d : drop (year_size b) b ≡ r = ap (λ (z : ℕ). drop (z + 144) b) (bytes_size v r f) ∙ (ap (drop 149) (bytes_before v r) ∙ drop_at (bytes_of v []) r 149 (bytes_long v f.all)) in
    rw (m, n, d) (rising_accepted vs (year_index v.year_n + 1) (at + year_size b) h.1.1)
