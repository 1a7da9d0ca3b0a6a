-- An accepted year written again from its values gives the same bytes. Assumes nothing.
use mathlib.Core.List.{List, [], ◌∷◌}
use mathlib.Core.Path.{◌≡◌, refl, ap}
use Prim.Native.Nat.{ℕ, zero, suc, ◌+◌, ◌*◌, ◌/◌, ◌%◌, ◌≤◌, ◌<◌}
use native.Mathlib.Omega.{arith}
use lib.ListN.{length, get_or, drop}
use lib.Seq.{get_or-drop, drop-drop}
use Rattle.law.specs.Book.{two_at, head_size, year_size, terms_of, terms_in, bytes_of, values_in}
use Rattle.book.proofs.YearSteps.{SoundTerms, SoundYear}
use Rattle.units.proofs.Counts.{back_count}

-- every element is a byte, as a slice of bytes tells
abbrev pub Bytes : List ℕ → Type 0
Bytes b = (i : ℕ) → get_or b i 0 < 256

pub bytes_drop : (b : List ℕ) (n : ℕ) → Bytes b → Bytes (drop n b)
bytes_drop b n h i = rw (get_or-drop n b i 0) (h (n + i))

high : (x y : ℕ) → x < 256 → y < 256 → (x * 256 + y) / 256 % 256 ≡ x
high x y h k = omega arith

low : (x y : ℕ) → y < 256 → (x * 256 + y) % 256 ≡ y
low x y h = omega arith

five : (b : List ℕ) → 5 ≤ length b → get_or b 0 0 ∷ get_or b 1 0 ∷ get_or b 2 0 ∷ get_or b 3 0 ∷ get_or b 4 0 ∷ drop 5 b ≡ b
five (a ∷ b ∷ c ∷ d ∷ e ∷ r) h = refl
five (a ∷ b ∷ c ∷ d ∷ []) h = absurd (omega arith)
five (a ∷ b ∷ c ∷ []) h = absurd (omega arith)
five (a ∷ b ∷ []) h = absurd (omega arith)
five (a ∷ []) h = absurd (omega arith)
five [] h = absurd (omega arith)

six : (b : List ℕ) → 6 ≤ length b → get_or b 0 0 ∷ get_or b 1 0 ∷ get_or b 2 0 ∷ get_or b 3 0 ∷ get_or b 4 0 ∷ get_or b 5 0 ∷ drop 6 b ≡ b
six [] h = absurd (omega arith)
six (x ∷ b) h = ap (λ (l : List ℕ). x ∷ l) (five b (omega arith))

-- the values of sound terms, written before what follows those terms, are their bytes
terms_again : (n k : ℕ) (b : List ℕ) → Bytes b → SoundTerms n k b → terms_of k (terms_in n b) (drop (n * 6) b) ≡ b
unfolding terms_of terms_in SoundTerms
terms_again zero k b h g = refl
terms_again (suc n) k b h g =
    let s = g.0 in
    let e : suc n * 6 ≡ 6 + n * 6 = omega arith in
    let i = terms_again n (suc k) (drop 6 b) (bytes_drop b 6 h) g.1 in
    let d = drop-drop (n * 6) 6 b in
    rw (back_count 4 (two_at b 2))
    (cc (e, i, d, six b s.room, s.kind, s.turn, high (get_or b 2 0) (get_or b 3 0) (h 2) (h 3), low (get_or b 2 0) (get_or b 3 0) (h 3), high (get_or b 4 0) (get_or b 5 0) (h 4) (h 5), low (get_or b 4 0) (get_or b 5 0) (h 5)))

pub written_again : (least : ℕ) (b : List ℕ) → Bytes b → SoundYear least b → bytes_of (values_in b) (drop (year_size b) b) ≡ b
unfolding values_in bytes_of
written_again least b h g =
    let s = g.head in
    let z = head_size b in
    let i = terms_again 24 0 (drop z b) (bytes_drop b z h) g.terms in
    let d = drop-drop 144 z b in
    rw (back_count 2_000 (two_at b 1))
    (cc (i, d, s.size, s.kind, high (get_or b 1 0) (get_or b 2 0) (h 1) (h 2), low (get_or b 1 0) (get_or b 2 0) (h 2), five b s.room))
