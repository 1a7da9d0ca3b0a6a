-- Over any blocks and the input's end, the first line asks what document 01 says of the whole input. Assumes nothing.
use mathlib.Core.Path.{◌≡◌, refl, sym, ap, ◌∙◌}
use mathlib.Core.Bool.{Bool, true, false, cond}
use mathlib.Core.List.{List, [], ◌∷◌, ◌++◌}
use Prim.Native.Nat.{ℕ, suc}
use Prim.Native.Nat.compare.{suc-suc}
use native.Mathlib.Numerals.{one-add}
use native.Mathlib.Omega.{arith}
use borrow.Author.Tests.{lt-ltb}
use lib.Dec.{eqb}
use lib.IntN.{ℤ}
use lib.ListN.{length, take}
use Rattle.std.specs.Prelude.{Some, None, ◌==◌, nat_lt, position}
use Rattle.std.specs.List.{position_or_len}
use Rattle.reasoning.specs.Answer.{Answer, refused}
use Rattle.law.specs.Request.{newline, last_line, lines_from, first_of, first_asks}
use Rattle.request.specs.declared.line.Line.{Line}
use Rattle.request.specs.declared.line.Line.TheVariants.{Empty, Digits, NoYear}
use Rattle.request.specs.Reading.{line_step, line_end, line_after}
use Rattle.request.specs.First.{Reached, asks, still, settled, first_after}
use Rattle.request.proofs.ReadLine.{by_case, read_line}
use Rattle.request.proofs.InBlocks.{one_more, joined}

-- ---- byte by byte, to the newline or the input's end

unfoldable asks_from : Line → List ℕ → Answer ℤ
asks_from line [] = line_end line
asks_from line (b ∷ bs) = cond (eqb b newline) (line_end line) (asks_from (line_step line b) bs)

at_end : (bytes : List ℕ) → line_end (line_after Empty bytes) ≡ first_of (last_line bytes)
at_end [] = refl
at_end (b ∷ bs) = read_line (b ∷ bs)

from : (bytes bs : List ℕ) → asks_from (line_after Empty bytes) bs ≡ first_of (lines_from bytes bs)
unfolding asks_from lines_from
from bytes [] = at_end bytes
from bytes (b ∷ bs) =
    by_case (eqb b 10) (λ e. rw e (read_line bytes))
    (λ e. rw e (ap (λ (line : Line). asks_from line bs) (sym (one_more Empty bytes b)) ∙ from (bytes ++ (b ∷ [])) bs))

whole : (input : List ℕ) → asks_from Empty input ≡ first_asks input
whole input = from [] input

none_stays : (bs : List ℕ) → asks_from NoYear bs ≡ refused 11
unfolding asks_from
none_stays [] = refl
none_stays (b ∷ bs) = by_case (eqb b 10) (λ e. rw e refl) (λ e. rw e (none_stays bs))

-- ---- block by block

-- what is asked, or what the rest makes of the line so far
abbrev pub or_else : Reached → (Line → Answer ℤ) → Answer ℤ
or_else (asks asked) rest = asked
or_else (still line) rest = rest line

-- what is asked over blocks, and at their end
unfoldable pub asked_over : Line → List (List ℕ) → Answer ℤ
asked_over line [] = line_end line
asked_over line (x ∷ xs) = or_else (first_after line x) (λ next. asked_over next xs)

same_rest : (r : Reached) (f g : Line → Answer ℤ) → ((line : Line) → f line ≡ g line) → or_else r f ≡ or_else r g
same_rest (asks asked) f g h = refl
same_rest (still line) f g h = h line

-- a block and what follows it
block_first : (line : Line) (x y : List ℕ) → or_else (first_after line x) (λ next. asks_from next y) ≡ asks_from line (x ++ y)
unfolding first_after asks_from
block_first Empty [] y = refl
block_first (Digits minus count size) [] y = refl
block_first NoYear [] y = sym (none_stays y)
block_first line (b ∷ x) y = by_case (eqb b 10) (λ e. rw e refl) (λ e. rw e (block_first (line_step line b) x y))

blocks : (line : Line) (xs : List (List ℕ)) → asked_over line xs ≡ asks_from line (joined xs)
unfolding asked_over joined asks_from
blocks line [] = refl
blocks line (x ∷ xs) =
    same_rest (first_after line x) (λ next. asked_over next xs) (λ next. asks_from next (joined xs)) (λ next. blocks next xs)
    ∙ block_first line x (joined xs)

pub first_in_blocks : (xs : List (List ℕ)) → asked_over Empty xs ≡ first_asks (joined xs)
first_in_blocks xs = blocks Empty xs ∙ whole (joined xs)

-- ---- a block taken up to its newline, or whole

found : (line : Line) (block : List ℕ)
    → first_after line block
    ≡ cond (nat_lt (position_or_len (λ b. b == newline) block) (length block)) (asks (line_end (line_after line (take (position_or_len (λ b. b == newline) block) block))))
    (settled false (line_after line block))
unfolding first_after
found line [] = refl
found line (b ∷ bs) =
    by_case (eqb b 10) (λ e. rw (e, lt-ltb 0 (suc (length bs)) (omega arith)) refl)
    (λ e. let n = position_or_len (λ b. b == newline) bs in rw (e, one-add n, suc-suc (suc n) (length bs)) (found (line_step line b) bs))

either : {end : ℕ} (n : ℕ) (r s : Reached) (t : Bool) → cond t (Some n) None ≡ Some end → cond t r s ≡ r
either n r s true e = refl
either n r s false e = cc

place : (end n : ℕ) (t : Bool) → cond t (Some n) None ≡ Some end → n ≡ end
place end n true e = cc
place end n false e = cc

neither : (n : ℕ) (r s : Reached) (t : Bool) → cond t (Some n) None ≡ None → cond t r s ≡ s
neither n r s true e = cc
neither n r s false e = refl

pub block_ends : (line : Line) (block : List ℕ) (end : ℕ) → position (λ b. b == newline) block ≡ Some end
    → first_after line block ≡ asks (line_end (line_after line (take end block)))
block_ends line block end e =
    let t = nat_lt (position_or_len (λ b. b == newline) block) (length block) in
    found line block ∙ (either _ _ _ t e ∙ ap (λ (n : ℕ). asks (line_end (line_after line (take n block)))) (place end _ t e))

pub block_is_none : (line : Line) (block : List ℕ) → position (λ b. b == newline) block ≡ None → line_after line block ≡ NoYear
    → first_after line block ≡ asks (refused 11)
block_is_none line block e n =
    found line block ∙ (neither _ _ _ (nat_lt (position_or_len (λ b. b == newline) block) (length block)) e ∙ ap (settled false) n)

open_stays : (line : Line) → (line ≡ NoYear → ⊥) → settled false line ≡ still line
open_stays Empty h = refl
open_stays (Digits minus count size) h = refl
open_stays NoYear h = absurd (h refl)

pub block_goes_on : (line : Line) (block : List ℕ) → position (λ b. b == newline) block ≡ None → (line_after line block ≡ NoYear → ⊥)
    → first_after line block ≡ still (line_after line block)
block_goes_on line block e n =
    found line block ∙ (neither _ _ _ (nat_lt (position_or_len (λ b. b == newline) block) (length block)) e ∙ open_stays (line_after line block) n)

-- what `first_line` needs of a block
pub ruleset block_read = (block_ends, block_is_none, block_goes_on)
