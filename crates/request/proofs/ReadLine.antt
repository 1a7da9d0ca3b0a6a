-- A line read a byte at a time asks what document 01 says of the whole line. Assumes nothing.
use mathlib.Core.Path.{◌≡◌, refl, sym}
use mathlib.Core.Bool.{Bool, true, false, ◌||◌}
use mathlib.Core.List.{List, [], ◌∷◌}
use Prim.Native.Nat.{ℕ, ◌+◌, ◌-◌, ◌*◌, ◌≤◌, ◌<◌}
use native.Mathlib.Nat.{add-zero}
use native.Mathlib.Omega.{arith}
use borrow.Author.Tests.{ne_eqb, ltb-true, ltb-false, lt-ltb, le-ltb}
use lib.Dec.{ltb, eqb}
use lib.IntN.{ℤ}
use lib.ListN.{length}
use Rattle.reasoning.specs.Answer.{refused, refusing}
use Rattle.law.specs.Request.{number_from, one_to_four, line_asks}
use Rattle.request.specs.declared.line.Line.TheVariants.{Empty, Digits, NoYear}
use Rattle.request.specs.Reading.{line_end, line_after}

-- a test holds, or does not
pub by_case : {P : Type 0} (x : Bool) → (x ≡ true → P) → (x ≡ false → P) → P
by_case true f g = f refl
by_case false f g = g refl

-- a line that is no year stays none
stays : (bs : List ℕ) → line_end (line_after NoYear bs) ≡ refused 11
stays [] = refl
stays (b ∷ bs) = stays bs

either_way : (x : Bool) → refusing {A = ℤ} x 11 (refused 11) ≡ refused 11
either_way true = refl
either_way false = refl

or_no : (x : Bool) → (x || false) ≡ x
or_no true = refl
or_no false = refl

-- the bound on the number that so many digits write
abbrev Below : ℕ → ℕ → Type 0
Below count n = (count ≤ 4) × ((count ≡ 0 → n < 1) × ((count ≤ 1 → n < 10) × ((count ≤ 2 → n < 100) × (count ≤ 3 → n < 1_000))))

none : Below 0 0
none = (omega arith, (λ e. omega arith, (λ e. omega arith, (λ e. omega arith, λ e. omega arith))))

more : (count n b : ℕ) → Below count n → count < 4 → b ≤ 57 → 48 ≤ b → Below (count + 1) (n * 10 + (b - 48))
more count n b h room high low =
    (omega arith, (λ e. omega arith, (λ e. omega (arith, h.1.0 (omega arith)), (λ e. omega (arith, h.1.1.0 (omega arith)), λ e. omega (arith, h.1.1.1.0 (omega arith))))))

-- after some digits: what is read of the rest is what document 01 says of one to four
digits_read : (minus : Bool) (count n : ℕ) (bs : List ℕ) → Below count n → line_end (line_after (Digits minus count n) bs) ≡ one_to_four minus count n bs
unfolding number_from
digits_read minus count n [] h = rw (add-zero, le-ltb 4 count h.0, or_no (eqb count 0)) refl
digits_read minus count n (b ∷ bs) h =
    let all = count + length (b ∷ bs) in
    by_case (ltb b 48) (λ low. rw (low, stays bs) (sym (either_way (eqb all 0 || ltb 4 all)))) (λ low.
    by_case (ltb 57 b) (λ high. rw (low, high, stays bs) (sym (either_way (eqb all 0 || ltb 4 all)))) (λ high.
    by_case (ltb count 4)
    (λ room.
    let l = ltb-false b 48 low in let g = ltb-false 57 b high in let r = ltb-true count 4 room in
    let e : count + 1 + length bs ≡ count + length (b ∷ bs) = omega arith in
    rw (low, high, room, lt-ltb n 1_000 (h.1.1.1.1 (omega arith)), ← e) (digits_read minus (count + 1) (n * 10 + (b - 48)) bs (more count n b h r g l)))
    (λ full.
    let f = ltb-false count 4 full in
    rw (low, high, full, stays bs, ne_eqb all 0 (λ e. omega arith), lt-ltb 4 all (omega arith)) refl)))

pub read_line : (bytes : List ℕ) → line_end (line_after Empty bytes) ≡ line_asks bytes
unfolding line_asks
read_line [] = refl
read_line (b ∷ bs) = by_case (eqb b 45) (λ e. rw e (digits_read true 0 0 bs none)) (λ e. rw e (digits_read false 0 0 (b ∷ bs) none))
