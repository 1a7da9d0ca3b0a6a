-- What a caller learns of its signed year and day from the answers of `midnight_at` and `lifted_at`: both reached them as the machine
-- reads them. Assumes nothing.
use mathlib.Core.Path.{◌≡◌, ap, ap₂, sym, ◌∙◌}
use Prim.Native.Nat.{ℕ}
use lib.IntN.{ℤ}
use mir.Syntax.{w64}
use mir.Val.{SFits}
use mir.Facts.{to_z-of_z}
use Rattle.reasoning.proofs.Indexed.{Indexed}
use Rattle.reasoning.specs.Answer.{Answer, refused, refusing}
use Rattle.law.specs.Document.{epicycles, bad_year, bad_day}
use Rattle.std.specs.Prelude.{Result, Ok, Err}
use Rattle.units.specs.declared.refusal.Refusal.{Refusal}
use Rattle.units.specs.Said.{number_of, said_number}
use Rattle.units.proofs.Machine.{read}
use Rattle.sun.specs.YearAndDay.{midnight_answer, lifted_answer}
use Rattle.sun.specs.declared.midnight.Midnight.{Midnight}
use Rattle.sun.specs.Said.{said_midnight}
use Rattle.sun.proofs.place.YearAndDay.{midnight_in, midnight_out}

module _ {n d : ℤ} (f : SFits w64 n) (g : SFits w64 d) where
  told : {R A : Type 0} (said : R → Answer A) (law : ℤ → ℤ → Answer A) {r s : R} → said r ≡ law (read w64 n) (read w64 d) → r ≡ s → said s ≡ law n d
  told said law e i = sym (ap said i) ∙ (e ∙ ap₂ law (to_z-of_z f) (to_z-of_z g))

  module _ {r : Result Midnight Refusal} (e : said_midnight r ≡ midnight_answer (read w64 n) (read w64 d)) where
    pub midnight_known : {at : Midnight} → r ≡ Ok at → Indexed 2_000 2_000 n at.year.y × Indexed 4 370 d at.day
    midnight_known i = midnight_in n d (told said_midnight midnight_answer e i)

    pub midnight_refused : {q : Refusal} → r ≡ Err q → {A : Type 0} (x : Answer A)
        → refused (number_of q) ≡ refusing (bad_year n) 1 (refusing (bad_day d) 2 x)
    midnight_refused i x = midnight_out n d (told said_midnight midnight_answer e i) x

  -- whatever the answer was
  pub lifted_known : {r s : Result ℕ Refusal} → said_number r ≡ lifted_answer epicycles (read w64 n) (read w64 d) → r ≡ s → said_number s ≡ lifted_answer epicycles n d
  lifted_known e i = told said_number (lifted_answer epicycles) e i
