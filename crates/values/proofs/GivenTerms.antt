-- One of the terms that are given to a call, and those after it. Assumes nothing.
use mathlib.Core.Bool.{false, ◌||◌}
use mathlib.Core.List.{List, [], ◌∷◌, map}
use mathlib.Core.Path.{◌≡◌, refl, sym, ◌∙◌, ap}
use Prim.Native.Nat.{ℕ, zero, suc, ◌<◌}
use native.Mathlib.Omega.{arith}
use lib.ListN.{length, length-map, get_or-map, get_or, drop}
use lib.Seq.{drop-cons}
use Rattle.std.specs.List.{list_any}
use Rattle.reasoning.proofs.Answers.{both_no}
use Rattle.law.specs.Document.{TermValues}
use Rattle.law.specs.Book.{bad_term_values, any_bad}
use Rattle.sun.specs.declared.term.TermRecord.{TermRecord}
use Rattle.sun.specs.Said.{values_of_term}
use Rattle.sun.specs.Worked.{zero_record}

not_bad : (k : ℕ) (ts : List TermValues) (t : TermValues) → any_bad ts ≡ false → k < length ts → bad_term_values (get_or ts k t) ≡ false
unfolding any_bad
not_bad k [] t e h = absurd (omega arith)
not_bad zero (x ∷ ts) t e h = (both_no (bad_term_values x) (any_bad ts) e).0
not_bad (suc k) (x ∷ ts) t e h = not_bad k ts t (both_no (bad_term_values x) (any_bad ts) e).1 (omega arith)

pub term_next : (ts : List TermRecord) (k : ℕ) → k < length ts
    → drop k (map values_of_term ts) ≡ values_of_term (get_or ts k zero_record) ∷ drop (suc k) (map values_of_term ts)
term_next ts k h =
    let l : k < length (map values_of_term ts) = omega (arith, length-map ts values_of_term) in
    drop-cons (map values_of_term ts) k (values_of_term zero_record) l ∙ ap (λ (t : TermValues). t ∷ drop (suc k) (map values_of_term ts)) (get_or-map values_of_term ts k zero_record)

pub term_not_bad : (ts : List TermRecord) (k : ℕ) → any_bad (map values_of_term ts) ≡ false → k < length ts → bad_term_values (values_of_term (get_or ts k zero_record)) ≡ false
term_not_bad ts k e h =
    let l : k < length (map values_of_term ts) = omega (arith, length-map ts values_of_term) in
    ap bad_term_values (sym (get_or-map values_of_term ts k zero_record)) ∙ not_bad k (map values_of_term ts) (values_of_term zero_record) e l

-- the test of each in turn
pub any_bad_is : (ts : List TermRecord) → list_any (λ t. bad_term_values (values_of_term t)) ts ≡ any_bad (map values_of_term ts)
unfolding any_bad
any_bad_is [] = refl
any_bad_is (t ∷ ts) = ap (λ b. bad_term_values (values_of_term t) || b) (any_bad_is ts)
