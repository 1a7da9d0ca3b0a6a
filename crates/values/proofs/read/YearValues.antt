-- The values that are read one by one are those of the year at the start of the bytes. Assumes nothing.
use mathlib.Core.List.{List, ◌∷◌}
use mathlib.Core.Path.{◌≡◌, refl, sym, ◌∙◌, ap}
use Prim.Native.Nat.{ℕ, zero, suc, ◌+◌, ◌*◌, ◌<◌}
use native.Mathlib.Omega.{arith}
use lib.IntN.{ℤ, pos, ◌-ℤ◌}
use lib.ListN.{get_or, drop}
use lib.Seq.{drop-drop}
use Rattle.reasoning.proofs.Whole.{Is, is_pos, is_minus, same}
use Rattle.reasoning.specs.InOrder.{in_order}
use Rattle.law.specs.Document.{TermValues}
use Rattle.law.specs.Book.{Checked, sound, faulty, Next, next_year, book_end, stop, year_from, next_at, two_at, head_size, term_in, terms_in, values_in}
use Rattle.reasoning.proofs.InOrder.{in_order_same}
use Rattle.book.proofs.YearSteps.{year_none}
use Rattle.book.proofs.BookSteps.{year_found, fault_found, end_reached}

-- the year at the start, by what a reader's first call finds
abbrev pub first_year : Next → Checked
first_year (next_year e l) = sound e
first_year book_end = faulty 10 0
first_year (stop n p) = faulty n p

pub first_year_lem : (b : List ℕ) (n : Next) → n ≡ next_at b 0 0 → first_year n ≡ year_from 0 0 b
first_year_lem b (next_year e l) q = sym (year_found b 0 0 e l (sym q)).1
first_year_lem b book_end q = sym (year_none 0 0 b (end_reached b 0 0 (sym q)))
first_year_lem b (stop n p) q = sym (fault_found b 0 0 n p (sym q)).1

lowered_is : (lo n : ℕ) {d : ℤ} → Is d n lo → d ≡ pos n -ℤ pos lo
lowered_is lo n h = same h (is_minus (is_pos n) (is_pos lo)) (omega arith)

terms_in_order : (n z : ℕ) (b : List ℕ) → terms_in n (drop z b) ≡ in_order (λ (k : ℕ). term_in (drop (z + k * 6) b)) n
unfolding terms_in in_order
terms_in_order zero z b = refl
terms_in_order (suc n) z b =
    let e : z + 0 * 6 ≡ z = omega arith in
    rw (e, drop-drop 6 z b)
    (ap (λ (l : List TermValues). term_in (drop z b) ∷ l)
    (terms_in_order n (z + 6) b
    ∙ in_order_same (λ (k : ℕ). term_in (drop (z + 6 + k * 6) b)) (λ (k : ℕ). term_in (drop (z + suc k * 6) b)) n
    (λ (k : ℕ) (h : k < n). let f : z + 6 + k * 6 ≡ z + suc k * 6 = omega arith in ap (λ (i : ℕ). term_in (drop i b)) f)))

-- a year whose head is 5 bytes long
pub year_read_lem : (b : List ℕ) {N : ℤ} {y name duty : ℕ} {ts : List TermValues} → head_size b ≡ 5 → Is N y 2_000 → y ≡ two_at b 1
    → name ≡ get_or b 3 0 → duty ≡ get_or b 4 0 → ts ≡ in_order (λ (k : ℕ). term_in (drop (5 + k * 6) b)) 24
    → record { year_n = N; year_name = name; year_mansion = duty; year_terms = ts } ≡ values_in b
unfolding values_in
year_read_lem b {y = y} z i p n m q = rw (lowered_is 2_000 y i, p, n, m, q, z, terms_in_order 24 5 b)
