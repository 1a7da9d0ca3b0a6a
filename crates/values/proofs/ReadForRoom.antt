-- How many terms a year has, and what is answered for a list of so many records. Assumes nothing.
use mathlib.Core.List.{List}
use mathlib.Core.Path.{◌≡◌, refl, ap}
use Prim.Native.Nat.{ℕ, zero, suc, ◌≤◌, ◌<◌}
use borrow.Author.Tests.{lt-ltb, le-ltb}
use lib.ListN.{length, drop}
use Rattle.reasoning.specs.Answer.{value, refused}
use Rattle.law.specs.Book.{Checked, year_from, terms_in, read_answer}

pub terms_many : (n : ℕ) (b : List ℕ) → length (terms_in n b) ≡ n
unfolding terms_in
terms_many zero b = refl
terms_many (suc n) b = ap suc (terms_many n (drop 6 b))

module _ (b : List ℕ) (room : ℕ) where
  pub read_6 : room < 24 → read_answer b room ≡ refused 6
  unfolding read_answer
  read_6 h = rw (lt-ltb room 24 h) refl

  pub read_as : 24 ≤ room → {c : Checked} → year_from 0 0 b ≡ c → read_answer b room ≡ value c
  unfolding read_answer
  read_as h e = rw (le-ltb room 24 h) (ap value e)
