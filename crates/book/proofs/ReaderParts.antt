-- Calls in a row hand out the parts of the book, each call its own, and the empty part after the last. Assumes nothing.
use mathlib.Core.List.{List, [], ◌∷◌}
use mathlib.Core.Path.{◌≡◌, refl, ◌∙◌, ap}
use Prim.Native.Nat.{ℕ, zero, suc, ◌+◌, ◌-◌, ◌≤◌, ◌<◌}
use native.Mathlib.Nat.{not-suc-le-zero, le_of_suc-le-suc}
use native.Mathlib.Omega.{arith}
use lib.ListN.{length, get_or, take, drop}
use denote.Ref.{Bor}
use Rattle.law.specs.Book.{Next, next_year, book_end, stop, next_at, handed_part, hand_out, parts_from, parts_of}
use Rattle.book.specs.declared.reader.Reader.{Reader}
use Rattle.book.specs.Reader.{opened, finds, hands_out}
use Rattle.book.proofs.BookSteps.{moved, next_end}
use Rattle.book.proofs.ReaderStays.{after_calls, went_on, is_year, stays_empty}

-- ---- from anywhere

-- call k hands out part k of those that so many calls hand out
abbrev pub HandsOut : ℕ → ℕ → Reader → Type 0
HandsOut k calls r = hands_out (after_calls k r) ≡ get_or (parts_from calls r.book.now r.last.end r.last.least) k []

module _ (r : Reader) (calls : ℕ) where
  abbrev parts_after : Next → List (List ℕ)
  parts_after found = hand_out found r.book.now r.last.end (parts_from calls r.book.now)

  this_call : (found : Next) → handed_part r.book.now r.last.end found ≡ get_or (parts_after found) 0 []
  this_call (next_year e least) = refl
  this_call book_end = refl
  this_call (stop n p) = refl

  later_call : (k : ℕ) (found : Next) → finds r ≡ found → ((r' : Reader) → HandsOut k calls r') → hands_out (after_calls k (went_on r found)) ≡ get_or (parts_after found) (suc k) []
  later_call k (next_year e least) q on = on (went_on r (next_year e least))
  later_call k book_end q on = (stays_empty r (ap is_year q) k).1
  later_call k (stop n p) q on = (stays_empty r (ap is_year q) k).1

pub in_a_row : (k calls : ℕ) (r : Reader) → k < calls → HandsOut k calls r
unfolding after_calls parts_from
in_a_row k zero r h = absurd (not-suc-le-zero h)
in_a_row zero (suc calls) r h = this_call r calls (finds r)
in_a_row (suc k) (suc calls) r h = later_call r calls k (finds r) refl (λ r'. in_a_row k calls r' (le_of_suc-le-suc h))

-- ---- from the start

module _ (s : List ℕ) where
  -- with calls enough for what is left of the book, more change nothing
  abbrev Enough : ℕ → ℕ → ℕ → ℕ → Type 0
  Enough f g at least = length s ≤ at + f → length s ≤ at + g → parts_from f s at least ≡ parts_from g s at least

  enough_on : (f g at least : ℕ) (found : Next) → next_at s at least ≡ found → length s ≤ at + suc f → length s ≤ at + suc g
      → ((e l : ℕ) → Enough f g e l) → hand_out found s at (parts_from f s) ≡ hand_out found s at (parts_from g s)
  enough_on f g at least (next_year e l) q h i on =
      let m = moved s at least e l q in
      ap (λ (ps : List (List ℕ)). take (e - at) (drop at s) ∷ ps) (on e l (omega (arith, m.to)) (omega (arith, m.to)))
  enough_on f g at least book_end q h i on = refl
  enough_on f g at least (stop n p) q h i on = refl

  enough : (f g at least : ℕ) → Enough f g at least
  unfolding parts_from
  enough zero zero at least h i = refl
  enough zero (suc g) at least h i = rw (next_end s at least (omega arith)) refl
  enough (suc f) zero at least h i = rw (next_end s at least (omega arith)) refl
  enough (suc f) (suc g) at least h i = enough_on f g at least (next_at s at least) refl h i (λ e l. enough f g e l)

pub hands_out_parts : (book : Bor (List ℕ)) (k : ℕ) → hands_out (after_calls k (opened book)) ≡ get_or (parts_of book.now) k []
hands_out_parts book k =
    let s = book.now in
    let calls = suc (k + length s) in
    in_a_row k calls (opened book) (omega arith) ∙ ap (λ (ps : List (List ℕ)). get_or ps k []) (enough s calls (length s) 0 0 (omega arith) (omega arith))
