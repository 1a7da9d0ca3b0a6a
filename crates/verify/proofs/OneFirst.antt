-- In a book each record ends before the next starts; so there is only one first record in which it differs from another. Assumes nothing.
use mathlib.Core.List.{List, [], ◌∷◌, ◌++◌, map}
use mathlib.Core.Logic.{inl, inr}
use mathlib.Core.Path.{◌≡◌, refl, sym, ◌∙◌, ap}
use Prim.Native.Nat.{ℕ, ◌+◌, ◌-◌, ◌≤◌, ◌<◌}
use native.Mathlib.Omega.{arith}
use lib.ListN.{length, get_or, take, drop}
use lib.Seq.{take-take, take-add, drop-append_seam, get_or-append-add}
use Rattle.law.specs.Index.{year_index}
use Rattle.law.specs.Book.{BookYear, record_size, together, bytes_of}
use Rattle.book.proofs.RecordAnswers.{size_le}
use Rattle.values.proofs.WrittenIsRead.{bytes_long, bytes_size}
use Rattle.values.proofs.RisingYears.{Rising}
use Rattle.verify.proofs.YearsOfBook.{year_bytes}
use Rattle.verify.proofs.FirstRecord.{RecordAt}

-- ---- a record ends before the next starts

not_before : (vs : List BookYear) (from at : ℕ) → RecordAt from (map year_bytes vs) at → from ≤ at
unfolding RecordAt
not_before [] from at r = absurd r
not_before (v ∷ vs) from at (inl (inl e)) = omega arith
not_before (v ∷ vs) from at (inl (inr t)) = omega (arith, t.place)
not_before (v ∷ vs) from at (inr r) = omega (arith, not_before vs (from + length (year_bytes v)) at r)

head_size_lem : (v : BookYear) (r : List ℕ) → record_size (get_or (year_bytes v ++ r) 0 0) ≡ 5
unfolding bytes_of record_size
head_size_lem v r = refl

-- the length of the record that starts at a byte
abbrev size_at : List ℕ → ℕ → ℕ
size_at s gone = record_size (get_or s gone 0)

pub ends_before : (vs : List BookYear) (least from p q : ℕ) → Rising least vs → RecordAt from (map year_bytes vs) p → RecordAt from (map year_bytes vs) q → p < q
    → p + size_at (together (map year_bytes vs)) (p - from) ≤ q
unfolding RecordAt
ends_before [] least from p q g r r' l = absurd r
ends_before (v ∷ vs) least from p q g (inl (inl e)) (inl (inl e')) l = absurd (omega arith)
ends_before (v ∷ vs) least from p q g (inl (inl e)) (inl (inr t)) l =
    let z : p - from ≡ 0 = omega arith in
    rw z (omega (arith, head_size_lem v (together (map year_bytes vs)), t.place, bytes_size v [] g.0))
ends_before (v ∷ vs) least from p q g (inl (inl e)) (inr r) l =
    omega (arith, size_le (get_or (year_bytes v ++ together (map year_bytes vs)) (p - from) 0), not_before vs (from + length (year_bytes v)) q r, bytes_long v g.0.all)
ends_before (v ∷ vs) least from p q g (inl (inr t)) (inl (inl e)) l = absurd (omega (arith, t.place))
ends_before (v ∷ vs) least from p q g (inl (inr t)) (inl (inr u)) l =
    omega (arith, t.place, u.place, size_le (get_or (year_bytes v ++ together (map year_bytes vs)) (p - from) 0))
ends_before (v ∷ vs) least from p q g (inl (inr t)) (inr r) l =
    omega (arith, t.place, t.below, size_le (get_or (year_bytes v ++ together (map year_bytes vs)) (p - from) 0), not_before vs (from + length (year_bytes v)) q r, bytes_long v g.0.all, bytes_size v [] g.0)
ends_before (v ∷ vs) least from p q g (inr r) (inl (inl e)) l = absurd (omega (arith, not_before vs (from + length (year_bytes v)) p r))
ends_before (v ∷ vs) least from p q g (inr r) (inl (inr u)) l =
    absurd (omega (arith, not_before vs (from + length (year_bytes v)) p r, u.place, u.below, bytes_long v g.0.all, bytes_size v [] g.0))
ends_before (v ∷ vs) least from p q g (inr r) (inr r') l =
    let b = year_bytes v in
    let s = together (map year_bytes vs) in
    let i = ends_before vs (year_index v.year_n + 1) (from + length b) p q g.1.1 r r' l in
    let z : p - from ≡ length b + (p - (from + length b)) = omega (arith, not_before vs (from + length b) p r) in
    rw (z, get_or-append-add b s (p - (from + length b)) 0) i

-- ---- the first that differs

same_rest : (x a b : List ℕ) → x ++ a ≡ x ++ b → a ≡ b
same_rest x a b e = sym (drop-append_seam x a) ∙ (ap (drop (length x)) e ∙ drop-append_seam x b)

-- where two books are the same up to a byte, a record that ends before it is the same
pub same_record : (s b : List ℕ) (p m q : ℕ) → take p s ≡ take p b → take q s ≡ take q b → p + m ≤ q → take m (drop p s) ≡ take m (drop p b)
same_record s b p m q before up l =
    let both : take (p + m) s ≡ take (p + m) b = sym (take-take (p + m) q s l) ∙ (ap (take (p + m)) up ∙ take-take (p + m) q b l) in
    same_rest (take p b) (take m (drop p s)) (take m (drop p b))
    (ap (λ (x : List ℕ). x ++ take m (drop p s)) (sym before) ∙ (sym (take-add p m s) ∙ (both ∙ take-add p m b)))
