-- A reader that finds no year stays as it is: each later call finds the same, and the part is empty. Assumes nothing.
use mathlib.Core.Bool.{Bool, true, false}
use mathlib.Core.List.{[]}
use mathlib.Core.Path.{◌≡◌, refl, ◌∙◌, ap}
use Prim.Native.Nat.{ℕ, zero, suc}
use native.Mathlib.Omega.{arith}
use Rattle.law.specs.Book.{Next, next_year, book_end, stop, handed_part, byte_after, least_then}
use Rattle.book.specs.declared.reader.Reader.{Reader}
use Rattle.book.specs.Reader.{finds, hands_out, gone_on}

abbrev pub is_year : Next → Bool
is_year (next_year e least) = true
is_year book_end = false
is_year (stop n p) = false

-- the reader after so many calls
unfoldable pub after_calls : ℕ → Reader → Reader
after_calls zero r = r
after_calls (suc calls) r = after_calls calls (gone_on r)

-- where a reader goes on, by what it found
abbrev pub went_on : Reader → Next → Reader
went_on r found = record { book = r.book; last = record { end = byte_after r.last.end found; least = least_then r.last.least found } }

module _ (r : Reader) where
  no_year_lem : (found : Next) → is_year found ≡ false → (went_on r found ≡ r) × (handed_part r.book.now r.last.end found ≡ [])
  no_year_lem (next_year e least) h = absurd (let z : ◌≡◌ {A = ℕ} 0 1 = cc in omega arith)
  no_year_lem book_end h = (refl, refl)
  no_year_lem (stop n p) h = (refl, refl)

  module _ (h : is_year (finds r) ≡ false) where
    pub stays : (calls : ℕ) → after_calls calls r ≡ r
    unfolding after_calls
    stays zero = refl
    stays (suc calls) = ap (after_calls calls) (no_year_lem (finds r) h).0 ∙ stays calls

    pub stays_empty : (calls : ℕ) → (finds (after_calls calls r) ≡ finds r) × (hands_out (after_calls calls r) ≡ [])
    stays_empty calls = (ap finds (stays calls), ap hands_out (stays calls) ∙ (no_year_lem (finds r) h).1)
