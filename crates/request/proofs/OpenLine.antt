-- A first line that is still open has at most five bytes, those of all its blocks: so six reads of a byte or more settle what it asks.
-- Assumes nothing.
use mathlib.Core.Path.{◌≡◌, refl, sym, ap, ◌∙◌}
use mathlib.Core.Bool.{Bool, true, false, cond}
use mathlib.Core.List.{List, [], ◌∷◌}
use Prim.Native.Nat.{ℕ, ◌+◌, ◌-◌, ◌*◌, ◌≤◌}
use native.Mathlib.Omega.{arith}
use borrow.Author.Tests.{ltb-true}
use lib.Dec.{ltb, eqb}
use lib.IntN.{ℤ}
use lib.ListN.{length}
use Rattle.reasoning.specs.Answer.{Answer, refused}
use Rattle.law.specs.Request.{no_digit}
use Rattle.request.specs.declared.line.Line.{Line}
use Rattle.request.specs.declared.line.Line.TheVariants.{Empty, Digits, NoYear}
use Rattle.request.specs.Reading.{digit_step, line_step, line_end}
use Rattle.request.specs.First.{Reached, asks, still, settled, first_after}
use Rattle.request.proofs.ReadLine.{by_case}

-- how many bytes made a line that may still be a year
abbrev pub bytes_so_far : Line → ℕ
bytes_so_far Empty = 0
bytes_so_far (Digits minus count size) = cond minus 1 0 + count
bytes_so_far NoYear = 0

asked_or_open : {asked : Answer ℤ} {line : Line} → asks asked ≡ still line → ⊥
asked_or_open e = let z : ◌≡◌ {A = ℕ} 0 1 = cc in omega arith

line_in : Reached → Line
line_in (asks asked) = NoYear
line_in (still line) = line

open_same : (from line : Line) → settled false from ≡ still line → from ≡ line
unfolding line_in
open_same Empty line e = ap line_in e
open_same (Digits minus count size) line e = ap line_in e
open_same NoYear line e = absurd (asked_or_open e)

none_open : (block : List ℕ) (line : Line) → first_after NoYear block ≡ still line → ⊥
unfolding first_after
none_open [] line e = asked_or_open e
none_open (b ∷ bs) line e =
    by_case (eqb b 10) (λ n. let h : first_after NoYear (b ∷ bs) ≡ asks (refused 11) = rw n refl in asked_or_open (sym h ∙ e))
    (λ n. let h : first_after NoYear (b ∷ bs) ≡ first_after NoYear bs = rw n refl in none_open bs line (sym h ∙ e))

-- another byte makes the line no year, or one byte longer
digit_more : {P : Type 0} (x y z : Bool) (line : Line) → (cond x NoYear (cond y (cond z line NoYear) NoYear) ≡ NoYear → P)
    → (y ≡ true → cond x NoYear (cond y (cond z line NoYear) NoYear) ≡ line → P) → P
digit_more true y z line f g = f refl
digit_more false true true line f g = g refl refl
digit_more false true false line f g = f refl
digit_more false false z line f g = f refl

abbrev Longer : Line → Line → Type 0
Longer line next = (bytes_so_far next ≡ bytes_so_far line + 1) × (bytes_so_far next ≤ 5)

sign_most : (minus : Bool) → cond minus 1 0 ≤ 1
sign_most true = omega arith
sign_most false = omega arith

more : {P : Type 0} (line : Line) (b : ℕ) → (line_step line b ≡ NoYear → P) → (Longer line (line_step line b) → P) → P
more Empty b f g =
    by_case (eqb b 45) (λ e. let h : line_step Empty b ≡ Digits true 0 0 = rw e refl in let k = ap bytes_so_far h in g (omega (arith, k), omega (arith, k)))
    (λ e. let h : line_step Empty b ≡ digit_step false 0 0 b = rw e refl in
    digit_more (no_digit b) (ltb 0 4) (ltb 0 1_000) (Digits false (0 + 1) (0 * 10 + (b - 48))) (λ n. f (h ∙ n))
    (λ r m. let k = ap bytes_so_far (h ∙ m) in g (omega (arith, k), omega (arith, k))))
more (Digits minus count size) b f g =
    digit_more (no_digit b) (ltb count 4) (ltb size 1_000) (Digits minus (count + 1) (size * 10 + (b - 48))) f
    (λ r m. let k = ap bytes_so_far m in let u = ltb-true count 4 r in g (omega (arith, k), omega (arith, k, u, sign_most minus)))
more NoYear b f g = f refl

pub still_open : (from : Line) (block : List ℕ) (line : Line) → bytes_so_far from ≤ 5 → first_after from block ≡ still line
    → (bytes_so_far line ≡ bytes_so_far from + length block) × (bytes_so_far line ≤ 5)
unfolding first_after
still_open from [] line h e = let k = ap bytes_so_far (open_same from line e) in (omega (arith, k), omega (arith, k))
still_open from (b ∷ bs) line h e =
    by_case (eqb b 10) (λ n. let k : first_after from (b ∷ bs) ≡ asks (line_end from) = rw n refl in absurd (asked_or_open (sym k ∙ e)))
    (λ n.
    let k : first_after from (b ∷ bs) ≡ first_after (line_step from b) bs = rw n refl in
    more from b (λ none. absurd (none_open bs line (ap (λ (l : Line). first_after l bs) (sym none) ∙ (sym k ∙ e))))
    (λ longer. let s = still_open (line_step from b) bs line longer.1 (sym k ∙ e) in (omega (arith, s.0, longer.0), s.1)))
