-- A buffer filled from its head on, one term further at a time: what it holds so far, before the terms still to come, is the year.
-- Assumes nothing.
use mathlib.Core.List.{List, [], ◌∷◌, ◌++◌, map, append_assoc}
use mathlib.Core.Path.{◌≡◌, refl, ap}
use Prim.Native.Nat.{ℕ, suc, ◌+◌, ◌*◌, ◌≤◌, ◌<◌}
use native.Mathlib.Omega.{arith}
use native.Mathlib.Numerals.{add-one}
use borrow.Rule.Slice.PartMut.{put_mid}
use lib.ListN.{length, take, drop, take-append-drop, drop_of_length-le}
use lib.Seq.{drop-drop}
use Rattle.std.proofs.lemmas.Slice.{take-put_mid, drop-put_mid}
use Rattle.law.specs.Document.{TermValues}
use Rattle.law.specs.Book.{terms_of, bytes_of}
use Rattle.sun.specs.declared.term.TermRecord.{TermRecord}
use Rattle.sun.specs.Said.{values_of_term}
use Rattle.values.specs.declared.head.Head.{Head}
use Rattle.values.specs.Said.{given_year}
use Rattle.values.specs.Told.{head_record, term_record}

-- what is filled up to a byte, before the terms from k on
abbrev pub buffer_to : ℕ → ℕ → List TermValues → List ℕ → List ℕ
buffer_to k at ts b = take at b ++ terms_of k (drop k ts) (drop 149 b)

pub fill_head : (head : Head) (ts : List TermRecord) (b : List ℕ) → buffer_to 0 5 (map values_of_term ts) (head_record head [] ++ drop 5 b) ≡ bytes_of (given_year head ts) (drop 149 b)
unfolding bytes_of
fill_head head ts b = rw (drop-drop 144 5 b) refl

-- the record of term k stored in its place, which is so many bytes wide
pub fill_more : (k wide : ℕ) (ts : List TermValues) (t : TermValues) (b new : List ℕ) → k < 24 → 149 ≤ length b → wide ≡ 6
    → drop k ts ≡ t ∷ drop (suc k) ts → new ≡ term_record k t []
    → buffer_to (k + 1) (5 + (k + 1) * 6) ts (put_mid (5 + k * 6) wide b new) ≡ buffer_to k (5 + k * 6) ts b
unfolding terms_of
fill_more k wide ts t b new h l w d n =
    let at = 5 + k * 6 in
    let long : length new ≡ 6 = ap length n in
    let front : take (5 + (k + 1) * 6) (put_mid at wide b new) ≡ take at b ++ new = take-put_mid at wide b new _ (omega arith) (omega arith) in
    let rest : drop 149 (put_mid at wide b new) ≡ drop 149 b = drop-put_mid at wide b new 149 (omega arith) (omega arith) (omega arith) in
    rw (front, rest, n, d, add-one k) (append_assoc (take at b) (term_record k t []) (terms_of (suc k) (drop (suc k) ts) (drop 149 b)))

pub fill_end : (k : ℕ) (ts : List TermValues) (b : List ℕ) → length ts ≤ k → buffer_to k 149 ts b ≡ b
unfolding terms_of
fill_end k ts b h = rw (drop_of_length-le ts h) (take-append-drop 149 b)
