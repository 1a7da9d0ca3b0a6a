-- The parts that a reader hands out of a sound book, put together, are the book. Assumes nothing.
use mathlib.Core.Bool.{true}
use mathlib.Core.List.{List}
use mathlib.Core.Path.{◌≡◌, sym}
use Prim.Native.Nat.{ℕ, zero, suc, ◌+◌, ◌-◌, ◌≤◌, ◌<◌}
use native.Mathlib.Decide.{dec_lt}
use native.Mathlib.Omega.{arith}
use lib.ListN.{length, drop, length-drop, take-append-drop, drop_of_length-le}
use Rattle.law.specs.Book.{next_year, year_size, least_after, year_from, book_from, book_of, next_at, parts_from, parts_of, together}
use Rattle.book.proofs.BookSteps.{Moved, moved, next_end, next_in, book_step, is_sound, end_of, and_sound}

-- where a year is left of a sound book, a call hands it out
pub record Handed (s : List ℕ) (at least : ℕ) : Type 0 where
  pub end : ℕ
  pub after : ℕ
  pub next : next_at s at least ≡ next_year end after
  pub went : Moved s at least end after
  pub sound_on : is_sound (book_from after end (drop end s)) ≡ true

pub handed : (s : List ℕ) (at least : ℕ) → at < length s → is_sound (book_from least at (drop at s)) ≡ true → Handed s at least
handed s at least h o =
    let b = drop at s in
    let l : 0 < length b = simp length-drop (omega arith) in
    let a = and_sound (year_from least at b) (book_from (least_after b) (at + year_size b) (drop (year_size b) b)) (rw (book_step least at b l) at o) in
    let q = sym (next_in s at least h (sym a.0)) in
    let m = moved s at least (end_of (year_from least at b)) (least_after b) q in
    record { end = end_of (year_from least at b); after = least_after b; next = q; went = m; sound_on = rw m.book at o }

pub by_dec : {P Q : Type 0} → Dec P → (P → Q) → ((P → ⊥) → Q) → Q
by_dec (yes p) f g = f p
by_dec (no n) f g = g n

parts_from_lem : (calls : ℕ) (s : List ℕ) (at least : ℕ) → length s ≤ at + calls → is_sound (book_from least at (drop at s)) ≡ true
    → together (parts_from calls s at least) ≡ drop at s
unfolding parts_from
parts_from_lem zero s at least h o = let l : length s ≤ at = omega arith in sym (drop_of_length-le s l)
parts_from_lem (suc calls) s at least h o =
    by_dec (dec_lt at (length s))
    (λ w.
    let m = handed s at least w o in
    let i = parts_from_lem calls s m.end m.after (omega (arith, m.went)) m.sound_on in
    let z : m.end - at ≡ year_size (drop at s) = omega (arith, m.went) in
    rw m.next (rw (i, z, ← m.went.left) (take-append-drop (year_size (drop at s)) (drop at s))))
    (λ w. let l : length s ≤ at = omega arith in rw (next_end s at least l) (sym (drop_of_length-le s l)))

pub parts_together : (s : List ℕ) → is_sound (book_of s) ≡ true → together (parts_of s) ≡ s
parts_together s o = parts_from_lem (length s) s 0 0 (omega arith) o
