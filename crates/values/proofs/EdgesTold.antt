-- A year has its index, and a day its count, exactly where it may be written. Assumes nothing.
use mathlib.Core.Bool.{false}
use mathlib.Core.Path.{◌≡◌, refl, sym, ◌∙◌}
use Prim.Native.Nat.{ℕ}
use lib.IntN.{ℤ}
use mir.Syntax.{w64}
use mir.Val.{SFits}
use Rattle.std.proofs.lemmas.Bool.{false≢true}
use Rattle.std.specs.Prelude.{Result, Ok, Err, is_err, IsOk}
use Rattle.law.specs.Document.{bad_year, bad_day}
use Rattle.units.specs.declared.refusal.Refusal.{Refusal}
use Rattle.units.specs.Said.{said_number}
use Rattle.units.specs.IndexAnswers.{year_index_answer, day_index_answer}
use Rattle.units.proofs.IndexAnswers.{day_out}
use Rattle.units.proofs.Callers.{told, year_known, year_unknown, day_known}
use Rattle.units.proofs.Machine.{read}

not_err : {A B : Type 0} (r : Result A B) → is_err r ≡ false → IsOk r
not_err (Ok x) e = refl
not_err (Err y) e = absurd (false≢true (sym e))

module _ {z : ℤ} (f : SFits w64 z) where
  year_refused : (r : Result ℕ Refusal) → said_number r ≡ year_index_answer (read w64 z) → is_err r ≡ bad_year z
  year_refused (Ok y) e = sym (year_known f e refl).test
  year_refused (Err q) e = sym (year_unknown f e refl)

  pub day_refused : (r : Result ℕ Refusal) → said_number r ≡ day_index_answer (read w64 z) → is_err r ≡ bad_day z
  day_refused (Ok j) e = sym (day_known f e refl).test
  day_refused (Err q) e = sym (day_out z (told said_number day_index_answer {r = Err q} f e refl))

  pub year_counted : (r : Result ℕ Refusal) → said_number r ≡ year_index_answer (read w64 z) → bad_year z ≡ false → IsOk r
  year_counted r e h = not_err r (year_refused r e ∙ h)

  pub day_counted : (r : Result ℕ Refusal) → said_number r ≡ day_index_answer (read w64 z) → bad_day z ≡ false → IsOk r
  day_counted r e h = not_err r (day_refused r e ∙ h)
