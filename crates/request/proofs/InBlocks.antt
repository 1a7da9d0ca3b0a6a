-- What is written byte by byte and at the input's end is document 01's output of the input, and however the reads cut the input.
-- Assumes nothing.
use mathlib.Core.Path.{◌≡◌, refl, sym, ap, ◌∙◌}
use mathlib.Core.Bool.{Bool, true, false, cond}
use mathlib.Core.List.{List, [], ◌∷◌, ◌++◌, append_assoc, append-nil}
use Prim.Native.Nat.{ℕ}
use lib.Dec.{ltb, eqb}
use Rattle.law.specs.Request.{no_digit, line_asks, answer_text, last_line, lines_from, written_for, output}
use Rattle.request.specs.declared.line.Line.{Line}
use Rattle.request.specs.declared.line.Line.TheVariants.{Empty, Digits, NoYear}
use Rattle.request.specs.Reading.{line_step, line_end, line_after}
use Rattle.request.specs.Stream.{next_line, byte_text, state_after, text_after, closing}
use Rattle.request.proofs.ReadLine.{by_case, read_line}

-- ---- a line that has bytes is answered at the input's end

abbrev Begun : Line → Type 0
Begun line = closing line ≡ answer_text (line_end line)

begun_digit : (x y z : Bool) (minus : Bool) (count size : ℕ) → Begun (cond x NoYear (cond y (cond z (Digits minus count size) NoYear) NoYear))
begun_digit true y z minus count size = refl
begun_digit false true true minus count size = refl
begun_digit false true false minus count size = refl
begun_digit false false z minus count size = refl

begun : (line : Line) (b : ℕ) → Begun (line_step line b)
begun Empty b = by_case (eqb b 45) (λ e. rw e refl) (λ e. rw e (begun_digit (no_digit b) (ltb 0 4) (ltb 0 1_000) false _ _))
begun (Digits minus count size) b = begun_digit (no_digit b) (ltb count 4) (ltb size 1_000) minus _ _
begun NoYear b = refl

begun_after : (line : Line) (b : ℕ) (bs : List ℕ) → Begun (line_after (line_step line b) bs)
begun_after line b [] = begun line b
begun_after line b (x ∷ xs) = begun_after (line_step line b) x xs

at_end : (bytes : List ℕ) → closing (line_after Empty bytes) ≡ written_for (last_line bytes)
unfolding written_for
at_end [] = refl
at_end (b ∷ bs) =
    begun_after Empty b bs ∙ (ap answer_text (read_line (b ∷ bs)) ∙ sym (append-nil (answer_text (line_asks (b ∷ bs)))))

-- ---- byte by byte

pub one_more : (line : Line) (bytes : List ℕ) (b : ℕ) → line_after line (bytes ++ (b ∷ [])) ≡ line_step (line_after line bytes) b
one_more line [] b = refl
one_more line (x ∷ xs) b = one_more (line_step line x) xs b

from : (bytes bs : List ℕ) → text_after (line_after Empty bytes) bs ++ closing (state_after (line_after Empty bytes) bs) ≡ written_for (lines_from bytes bs)
unfolding text_after state_after lines_from written_for
from bytes [] = at_end bytes
from bytes (b ∷ bs) =
    by_case (eqb b 10)
    (λ e. rw e
    (append_assoc (answer_text (line_end (line_after Empty bytes))) (text_after Empty bs) (closing (state_after Empty bs))
    ∙ (ap (λ (t : List ℕ). t ++ (text_after Empty bs ++ closing (state_after Empty bs))) (ap answer_text (read_line bytes))
    ∙ ap (λ (t : List ℕ). answer_text (line_asks bytes) ++ t) (from [] bs))))
    (λ e. rw e (ap (λ (line : Line). text_after line bs ++ closing (state_after line bs)) (sym (one_more Empty bytes b)) ∙ from (bytes ++ (b ∷ [])) bs))

pub whole : (input : List ℕ) → text_after Empty input ++ closing (state_after Empty input) ≡ output input
whole input = from [] input

-- ---- block by block

state_joined : (line : Line) (x y : List ℕ) → state_after line (x ++ y) ≡ state_after (state_after line x) y
unfolding state_after
state_joined line [] y = refl
state_joined line (b ∷ x) y = state_joined (next_line line b) x y

text_joined : (line : Line) (x y : List ℕ) → text_after line (x ++ y) ≡ text_after line x ++ text_after (state_after line x) y
unfolding state_after text_after
text_joined line [] y = refl
text_joined line (b ∷ x) y =
    ap (λ (t : List ℕ). byte_text line b ++ t) (text_joined (next_line line b) x y)
    ∙ sym (append_assoc (byte_text line b) (text_after (next_line line b) x) (text_after (state_after (next_line line b) x) y))

-- the input that blocks make
unfoldable pub joined : List (List ℕ) → List ℕ
joined [] = []
joined (x ∷ xs) = x ++ joined xs

-- what is written over blocks, and at their end
unfoldable pub written : Line → List (List ℕ) → List ℕ
written line [] = closing line
written line (x ∷ xs) = text_after line x ++ written (state_after line x) xs

blocks : (line : Line) (xs : List (List ℕ)) → written line xs ≡ text_after line (joined xs) ++ closing (state_after line (joined xs))
unfolding written joined text_after state_after
blocks line [] = refl
blocks line (x ∷ xs) =
    let next = state_after line x in
    ap (λ (t : List ℕ). text_after line x ++ t) (blocks next xs)
    ∙ (sym (append_assoc (text_after line x) (text_after next (joined xs)) (closing (state_after next (joined xs))))
    ∙ (ap (λ (t : List ℕ). t ++ closing (state_after next (joined xs))) (sym (text_joined line x (joined xs)))
    ∙ ap (λ (m : Line). text_after line (x ++ joined xs) ++ closing m) (sym (state_joined line x (joined xs)))))

pub in_blocks : (xs : List (List ℕ)) → written Empty xs ≡ output (joined xs)
in_blocks xs = blocks Empty xs ∙ whole (joined xs)
