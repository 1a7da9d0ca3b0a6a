-- What the writer of values answers, refusal by refusal, and what the buffer then holds. Assumes nothing.
use mathlib.Core.Bool.{true, false}
use mathlib.Core.List.{List}
use mathlib.Core.Path.{◌≡◌, sym, ap}
use Prim.Native.Nat.{ℕ, ◌≤◌, ◌<◌}
use borrow.Author.Tests.{lt-ltb, le-ltb}
use lib.ListN.{length, drop}
use mir.Syntax.{w64}
use mir.Val.{SFits}
use Rattle.std.specs.Prelude.{Result, Ok, Err}
use Rattle.reasoning.specs.Answer.{Answer, value, refused, done, afterwards}
use Rattle.law.specs.Document.{bad_year}
use Rattle.law.specs.Book.{BookYear, bytes_of, any_bad, bad_values, write_answer}
use Rattle.units.specs.declared.refusal.Refusal.{Refusal}
use Rattle.units.specs.Said.{number_of, said_number}
use Rattle.units.specs.IndexAnswers.{year_index_answer, no_room}
use Rattle.units.proofs.IndexAnswers.{no_room_answer}
use Rattle.units.proofs.Machine.{read}
use Rattle.sun.proofs.PassedUp.{year_refused}
use Rattle.values.specs.Told.{Told}

module _ {answer : List ℕ → Answer (List ℕ)} (b : List ℕ) where
  pub tell_refused : {r : Refusal} → answer b ≡ refused (number_of r) → Told answer b b (Err r)
  tell_refused e = record { says = ap done (sym e); holds = ap (afterwards b) (sym e) }

  pub tell_done : {c : List ℕ} → answer b ≡ value c → Told answer b c (Ok tt)
  tell_done e = record { says = ap done (sym e); holds = ap (afterwards b) (sym e) }

module _ (v : BookYear) where
  pub terms_decide : v.year_name ≤ 59 → v.year_mansion ≤ 27 → bad_values v ≡ any_bad v.year_terms
  unfolding bad_values
  terms_decide h g = simp (le-ltb 59 v.year_name h, le-ltb 27 v.year_mansion g)

  module _ (b : List ℕ) where
    -- the year's refusal, as its edge says it
    pub write_1 : {r : Result ℕ Refusal} {q : Refusal} → SFits w64 v.year_n → said_number r ≡ year_index_answer (read w64 v.year_n) → r ≡ Err q
        → write_answer v b ≡ refused (number_of q)
    unfolding write_answer
    write_1 f e i = sym (year_refused _ f e i)

    -- for fewer than 24 terms: 1, then 6
    pub list_6 : length v.year_terms < 24 → write_answer v b ≡ refused (number_of (no_room v.year_n))
    unfolding write_answer
    list_6 h = rw (lt-ltb (length v.year_terms) 24 h) (no_room_answer v.year_n)

    module _ (e : bad_year v.year_n ≡ false) (g : 24 ≤ length v.year_terms) where
      pub buffer_6 : length b < 149 → write_answer v b ≡ refused 6
      unfolding write_answer
      buffer_6 h = rw (e, le-ltb (length v.year_terms) 24 g, lt-ltb (length b) 149 h)

      module _ (h : 149 ≤ length b) where
        pub write_9 : bad_values v ≡ true → write_answer v b ≡ refused 9
        unfolding write_answer
        write_9 f = rw (e, le-ltb (length v.year_terms) 24 g, le-ltb (length b) 149 h, f)

        pub write_done : bad_values v ≡ false → write_answer v b ≡ value (bytes_of v (drop 149 b))
        unfolding write_answer
        write_done f = rw (e, le-ltb (length v.year_terms) 24 g, le-ltb (length b) 149 h, f)
