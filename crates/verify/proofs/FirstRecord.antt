-- The first record in which a book differs from another of the same years: all before it is the same, and it is not. Assumes nothing.
use mathlib.Core.List.{List, [], ◌∷◌, ◌++◌}
use mathlib.Core.Logic.{◌⊎◌}
use mathlib.Core.Path.{◌≡◌, sym, ◌∙◌, ap}
use Prim.Native.Nat.{ℕ, ◌+◌, ◌*◌, ◌<◌}
use lib.ListN.{length, get_or, take, drop}
use lib.Seq.{take-append-add, drop-append-add, get_or-append-add}
use Rattle.law.specs.Book.{record_size, head_size}

-- ---- where a record starts

-- term k of the year b, which starts at a byte
pub record TermAt (from : ℕ) (b : List ℕ) (at : ℕ) : Type 0 where
  pub term : ℕ
  pub below : term < 24
  pub place : at ≡ from + head_size b + term * 6

-- the head or a term of one of these years, the first of which starts at a byte
unfoldable pub RecordAt : ℕ → List (List ℕ) → ℕ → Type 0
RecordAt from [] at = ⊥
RecordAt from (b ∷ bs) at = ((at ≡ from) ⊎ TermAt from b at) ⊎ RecordAt (from + length b) bs at

-- ---- where the first that differs starts

-- the record of s that starts at a byte, as those bytes of b
abbrev pub record_in : List ℕ → ℕ → List ℕ → List ℕ
record_in s at b = take (record_size (get_or s at 0)) (drop at b)

pub record FirstAt (s b : List ℕ) (at : ℕ) : Type 0 where
  pub before : take at s ≡ take at b
  pub other : record_in s at s ≡ record_in s at b → ⊥

-- the same after equal bytes
pub later : (p s b : List ℕ) (at : ℕ) → FirstAt s b at → FirstAt (p ++ s) (p ++ b) (length p + at)
later p s b at f =
    record {
      before = take-append-add p s at ∙ (ap (λ (x : List ℕ). p ++ x) f.before ∙ sym (take-append-add p b at));
      other = rw (get_or-append-add p s at 0, drop-append-add p s at, drop-append-add p b at) f.other;
    }
