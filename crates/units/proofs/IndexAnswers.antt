-- What an index tells of the N or the day behind it: the document's test, and its reading as a count. Assumes nothing.
use mathlib.Core.Path.{◌≡◌, refl, ap, sym, ◌∙◌}
use mathlib.Core.Bool.{Bool, true, false, cond}
use Prim.Native.Nat.{ℕ}
use lib.IntN.{ℤ, pos, neg_ℤ, nat_abs, ◌+ℤ◌}
use Rattle.reasoning.proofs.Indexed.{Indexed, indexed}
use Rattle.reasoning.specs.Answer.{value, refused, refusing}
use Rattle.law.specs.Document.{bad_year, bad_day}
use Rattle.reasoning.proofs.Answers.{passed, stopped}
use mir.Syntax.{w64}
use mir.Val.{SFits}
use mir.Facts.{to_z-of_z}
use Rattle.std.specs.Prelude.{Result, Ok, Err, unwrap_or}
use Rattle.std.specs.Result.{result_err}
use Rattle.units.specs.declared.refusal.Refusal.{Refusal}
use Rattle.units.specs.declared.refusal.Refusal.TheVariants.{YearOutside, DayOrMinuteOutside, TooShort}
use Rattle.units.specs.Said.{number_of, said_number}
use Rattle.units.proofs.Machine.{read}
use Rattle.units.proofs.HeldFast.{refusal_of, refusal_back}
use Rattle.units.specs.IndexAnswers.{counted_from, year_index_answer, day_index_answer, no_room}

-- the count, or the refusal, said as an answer
said_or : (b : Bool) (r : Refusal) (n : ℕ) → said_number (cond b (Err r) (Ok n)) ≡ refusing b (number_of r) (value n)
said_or true r n = refl
said_or false r n = refl

pub counted_year : (N : ℤ) (r : Result ℕ Refusal) → SFits w64 N → r ≡ counted_from (neg_ℤ (pos 2_000)) (pos 2_000) YearOutside (read w64 N) → said_number r ≡ year_index_answer N
unfolding counted_from year_index_answer
counted_year N r f e = rw (e, to_z-of_z f) (said_or (bad_year N) YearOutside (nat_abs (N +ℤ pos 2_000)))

pub counted_day : (d : ℤ) (r : Result ℕ Refusal) → SFits w64 d → r ≡ counted_from (neg_ℤ (pos 4)) (pos 370) DayOrMinuteOutside (read w64 d) → said_number r ≡ day_index_answer d
unfolding counted_from day_index_answer
counted_day d r f e = rw (e, to_z-of_z f) (said_or (bad_day d) DayOrMinuteOutside (nat_abs (d +ℤ pos 4)))

pub year_in : (N : ℤ) {y : ℕ} → value y ≡ year_index_answer N → Indexed 2_000 2_000 N y
unfolding year_index_answer
year_in N {y} e = let p = passed (bad_year N) 1 (nat_abs (N +ℤ pos 2_000)) e in indexed 2_000 2_000 N y p.test p.is

pub year_out : (N : ℤ) {k : ℕ} → refused k ≡ year_index_answer N → bad_year N ≡ true
unfolding year_index_answer
year_out N e = (stopped (bad_year N) 1 (nat_abs (N +ℤ pos 2_000)) e).test

pub day_in : (d : ℤ) {j : ℕ} → value j ≡ day_index_answer d → Indexed 4 370 d j
unfolding day_index_answer
day_in d {j} e = let p = passed (bad_day d) 2 (nat_abs (d +ℤ pos 4)) e in indexed 4 370 d j p.test p.is

pub day_out : (d : ℤ) {k : ℕ} → refused k ≡ day_index_answer d → bad_day d ≡ true
unfolding day_index_answer
day_out d e = (stopped (bad_day d) 2 (nat_abs (d +ℤ pos 4)) e).test

-- the refusal of a year that was not counted, and else 6
only_the_year : (q : Refusal) → number_of q ≡ 1 → q ≡ YearOutside
unfolding refusal_of
only_the_year q e = sym (refusal_back q) ∙ ap refusal_of e

pub refused_or_short : (N : ℤ) (r : Result ℕ Refusal) → SFits w64 N → said_number r ≡ year_index_answer (read w64 N) → unwrap_or (result_err r) TooShort ≡ no_room N
unfolding year_index_answer
refused_or_short N (Ok y) f e = rw (passed (bad_year N) 1 (nat_abs (N +ℤ pos 2_000)) (e ∙ ap year_index_answer (to_z-of_z f))).test refl
refused_or_short N (Err q) f e =
    let s = stopped (bad_year N) 1 (nat_abs (N +ℤ pos 2_000)) (e ∙ ap year_index_answer (to_z-of_z f)) in
    rw s.test (only_the_year q s.is)

-- a list or a buffer that is too short
pub no_room_answer : {A : Type 0} (N : ℤ) → refusing {A = A} (bad_year N) 1 (refused 6) ≡ refused (number_of (no_room N))
no_room_answer N = one_or_six (bad_year N)
  where
    one_or_six : {A : Type 0} (p : Bool) → refusing {A = A} p 1 (refused 6) ≡ refused (number_of (cond p YearOutside TooShort))
    one_or_six true = refl
    one_or_six false = refl
