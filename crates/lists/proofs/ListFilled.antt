-- What a list holds once the terms of an answer are stored in its first records. Assumes nothing.
use mathlib.Core.Bool.{Bool, true, false}
use mathlib.Core.List.{List, [], ◌∷◌, ◌++◌, map, map-append}
use mathlib.Core.Path.{◌≡◌, refl, sym, ap, ◌∙◌}
use Prim.Native.Nat.{ℕ, zero, suc, ◌≤◌, ◌<◌}
use borrow.Author.Tests.{lt-ltb, le-ltb}
use lib.IntN.{ℤ}
use lib.ListN.{length, take, drop}
use mir.Syntax.{w64}
use mir.Val.{SFits}
use mir.Facts.{to_z-of_z}
use Rattle.std.specs.Prelude.{Result, Err}
use Rattle.std.proofs.lemmas.List.{take-append-drop}
use Rattle.reasoning.specs.Answer.{Answer, refusing}
use Rattle.law.specs.Document.{bad_year, terms_answer, fill_answer}
use Rattle.units.specs.declared.refusal.Refusal.{Refusal}
use Rattle.units.specs.IndexAnswers.{no_room}
use Rattle.units.proofs.IndexAnswers.{no_room_answer}
use Rattle.units.proofs.Machine.{read}
use Rattle.sun.specs.declared.term.TermRecord.{TermRecord}
use Rattle.sun.specs.declared.worked_year.WorkedYear.{WorkedYear}
use Rattle.sun.specs.Said.{values_of_term}
use Rattle.sun.specs.Worked.{WorkedOut}
use Rattle.lists.specs.Fill.{Fills}

-- a lent list whose first part was not stored is the list that it was
pub list_kept : {first : List TermRecord} (l : List TermRecord) → first ≡ take 24 l → first ++ drop 24 l ≡ l
list_kept l e = ap (λ (x : List TermRecord). x ++ drop 24 l) e ∙ take-append-drop 24 l

map_drop : {A B : Type 0} (f : A → B) (n : ℕ) (l : List A) → map f (drop n l) ≡ drop n (map f l)
map_drop f zero l = refl
map_drop f (suc n) [] = refl
map_drop f (suc n) (x ∷ l) = map_drop f n l

pub list_stored : (terms l : List TermRecord) → map values_of_term (terms ++ drop 24 l) ≡ map values_of_term terms ++ drop 24 (map values_of_term l)
list_stored terms l = rw (map-append values_of_term terms (drop 24 l), map_drop values_of_term 24 l) refl

-- ---- the year call

tested_twice : {A : Type 0} (b : Bool) (next : Answer A) → refusing b 1 (refusing b 1 next) ≡ refusing b 1 next
tested_twice true next = refl
tested_twice false next = refl

module _ (e : ℕ) (N : ℤ) (l : List TermRecord) where
  -- a list that is too short
  pub fill_short : length l < 24 → Fills (fill_answer e N (length l)) l l (Err (no_room N))
  unfolding fill_answer
  fill_short h = rw (lt-ltb (length l) 24 h, no_room_answer N) (record { says = refl; list = refl })

  -- else the year worked out decides, which is handed N as the machine reads it
  pub fill_long : 24 ≤ length l → SFits w64 N → fill_answer e N (length l) ≡ terms_answer e (read w64 N)
  unfolding fill_answer terms_answer
  fill_long h f = rw (le-ltb (length l) 24 h, to_z-of_z f) (tested_twice (bad_year N) _)

  pub fill_refused : 24 ≤ length l → SFits w64 N → {r : Result WorkedYear Refusal} → WorkedOut (read w64 N) (terms_answer e (read w64 N)) r → {q : Refusal}
      → r ≡ Err q → Fills (fill_answer e N (length l)) l l (Err q)
  fill_refused h f w i = rw (fill_long h f ∙ sym w.says, i) (record { says = refl; list = refl })
