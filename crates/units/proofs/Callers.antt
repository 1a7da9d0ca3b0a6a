-- What a caller learns of its signed argument from an edge's answer: the argument reached the edge as the machine reads it.
-- Assumes nothing.
use mathlib.Core.Path.{◌≡◌, ap, sym, ◌∙◌}
use mathlib.Core.Bool.{true}
use Prim.Native.Nat.{ℕ}
use lib.IntN.{ℤ}
use mir.Syntax.{w64}
use mir.Val.{SFits}
use mir.Facts.{to_z-of_z}
use Rattle.std.specs.Prelude.{Result, Ok, Err}
use Rattle.reasoning.proofs.Indexed.{Indexed}
use Rattle.reasoning.specs.Answer.{Answer}
use Rattle.law.specs.Document.{bad_year}
use Rattle.units.specs.IndexAnswers.{year_index_answer, day_index_answer}
use Rattle.units.specs.declared.refusal.Refusal.{Refusal}
use Rattle.units.specs.Said.{said_number}
use Rattle.units.proofs.IndexAnswers.{year_in, year_out, day_in}
use Rattle.units.proofs.Machine.{read}

-- an answer r to the reading of z, which turned out to be s, is the answer to z itself
pub told : {R : Type 0} {A : Type 0} (said : R → Answer A) (law : ℤ → Answer A) {z : ℤ} {r s : R}
    → SFits w64 z → said r ≡ law (read w64 z) → r ≡ s → said s ≡ law z
told said law f e i = sym (ap said i) ∙ (e ∙ ap law (to_z-of_z f))

module _ {z : ℤ} {r : Result ℕ Refusal} (f : SFits w64 z) where
  pub year_known : {y : ℕ} → said_number r ≡ year_index_answer (read w64 z) → r ≡ Ok y → Indexed 2_000 2_000 z y
  year_known e i = year_in z (told said_number year_index_answer f e i)

  pub year_unknown : {q : Refusal} → said_number r ≡ year_index_answer (read w64 z) → r ≡ Err q → bad_year z ≡ true
  year_unknown e i = year_out z (told said_number year_index_answer f e i)

  pub day_known : {j : ℕ} → said_number r ≡ day_index_answer (read w64 z) → r ≡ Ok j → Indexed 4 370 z j
  day_known e i = day_in z (told said_number day_index_answer f e i)
