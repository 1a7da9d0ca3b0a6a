-- Each public function's promise holds its answer fast. Assumes nothing.
use mathlib.Core.Path.{◌≡◌, refl, ap}
use mathlib.Core.Bool.{cond}
use Prim.Native.Nat.{ℕ}
use lib.Dec.{eqb}
use Rattle.std.specs.Prelude.{Result, Ok, Err}
use Rattle.reasoning.proofs.HeldFast.{Held, by_facts, one, one_said}
use Rattle.reasoning.specs.Answer.{Answer, value, refused}
use Rattle.units.specs.declared.refusal.Refusal.{Refusal}
use Rattle.units.specs.declared.refusal.Refusal.TheVariants.{YearOutside, DayOrMinuteOutside, TermAbove, LongitudeBeyond, TangentAbove, TooShort, RecordCutOff, KindUnknown, FieldOutside, OutOfTurn, NotAYear, YearAbsent}
use Rattle.units.specs.Said.{number_of, said}
use Rattle.units.specs.contracts.refusal.U64FromRefusal.from as refusal-number
use Rattle.units.specs.contracts.index.year_index as year-index
use Rattle.units.specs.contracts.index.day_index as day-index
use Rattle.units.specs.contracts.index.no_room as no_room
use Rattle.units.specs.contracts.arithmetic.size as size
use Rattle.units.specs.contracts.arithmetic.half_up as half_up
use Rattle.units.specs.contracts.arithmetic.in_circle as in-circle
use Rattle.units.specs.contracts.seconds.ArcSeconds.of as arc-of
use Rattle.units.specs.contracts.seconds.ArcSeconds.seconds as arc-seconds
use Rattle.units.specs.contracts.seconds.ArcSeconds.to_clock as to-clock
use Rattle.units.specs.contracts.seconds.ClockSeconds.seconds as clock-seconds

-- ---- the readings of answers can be taken back

unfoldable pub refusal_of : ℕ → Refusal
refusal_of n =
    cond (eqb n 1) YearOutside
    (cond (eqb n 2) DayOrMinuteOutside
    (cond (eqb n 3) TermAbove
    (cond (eqb n 4) LongitudeBeyond
    (cond (eqb n 5) TangentAbove
    (cond (eqb n 6) TooShort
    (cond (eqb n 7) RecordCutOff
    (cond (eqb n 8) KindUnknown
    (cond (eqb n 9) FieldOutside (cond (eqb n 10) OutOfTurn (cond (eqb n 11) NotAYear YearAbsent))))))))))

pub refusal_back : (r : Refusal) → refusal_of (number_of r) ≡ r
unfolding refusal_of
refusal_back YearOutside = refl
refusal_back DayOrMinuteOutside = refl
refusal_back TermAbove = refl
refusal_back LongitudeBeyond = refl
refusal_back TangentAbove = refl
refusal_back TooShort = refl
refusal_back RecordCutOff = refl
refusal_back KindUnknown = refl
refusal_back FieldOutside = refl
refusal_back OutOfTurn = refl
refusal_back NotAYear = refl
refusal_back YearAbsent = refl

-- of an answer whose value can be taken back from what it stands for
abbrev pub answer_of : {T A : Type 0} → (A → T) → Answer A → Result T Refusal
answer_of back (value v) = Ok (back v)
answer_of back (refused k) = Err (refusal_of k)

pub answer_back : {T A : Type 0} (values : T → A) (back : A → T) → ((t : T) → back (values t) ≡ t) → (r : Result T Refusal) → answer_of back (said values r) ≡ r
answer_back values back same (Ok v) = ap Ok (same v)
answer_back values back same (Err r) = ap Err (refusal_back r)

-- two answers that say the same are the same
pub one_answer : {T A : Type 0} (values : T → A) (back : A → T) → ((t : T) → back (values t) ≡ t) → {a : Answer A} {r s : Result T Refusal}
    → said values r ≡ a → said values s ≡ a → r ≡ s
one_answer values back same p q = one_said (said values) (answer_of back) (answer_back values back same) p q

-- ---- the functions

pub refusal_number_held : Held refusal-number.ended (λ M 𝓤. refusal-number.clauses {M = M} {𝓤 = 𝓤})
refusal_number_held M 𝓤 𝓛 mem run κs a = by_facts 𝓤 (λ z z' w w' p q. (one p q, refl))

pub year_index_held : Held year-index.ended (λ M 𝓤. year-index.clauses {M = M} {𝓤 = 𝓤})
year_index_held M 𝓤 𝓛 mem run κs a = by_facts 𝓤 (λ z z' w w' p q. (one_answer (λ n. n) (λ n. n) (λ n. refl) p q, refl))

pub day_index_held : Held day-index.ended (λ M 𝓤. day-index.clauses {M = M} {𝓤 = 𝓤})
day_index_held M 𝓤 𝓛 mem run κs a = by_facts 𝓤 (λ z z' w w' p q. (one_answer (λ n. n) (λ n. n) (λ n. refl) p q, refl))

pub no_room_held : Held no_room.ended (λ M 𝓤. no_room.clauses {M = M} {𝓤 = 𝓤})
no_room_held M 𝓤 𝓛 mem run κs a = by_facts 𝓤 (λ z z' w w' p q. (one p q, refl))

pub size_held : Held size.ended (λ M 𝓤. size.clauses {M = M} {𝓤 = 𝓤})
size_held M 𝓤 𝓛 mem run κs a = by_facts 𝓤 (λ z z' w w' p q. (one p q, refl))

pub half_up_held : Held half_up.ended (λ M 𝓤. half_up.clauses {M = M} {𝓤 = 𝓤})
half_up_held M 𝓤 𝓛 mem run κs a = by_facts 𝓤 (λ z z' w w' p q. (one p q, refl))

pub in_circle_held : Held in-circle.ended (λ M 𝓤. in-circle.clauses {M = M} {𝓤 = 𝓤})
in_circle_held M 𝓤 𝓛 mem run κs a = by_facts 𝓤 (λ z z' w w' p q. (one p.0 q.0, refl))

-- of arc seconds, and of clock seconds
pub of_held : Held arc-of.ended (λ M 𝓤. arc-of.clauses {M = M} {𝓤 = 𝓤})
of_held M 𝓤 𝓛 mem run κs a = by_facts 𝓤 (λ z z' w w' p q. (ap (λ s. record { 0 = s }) (one p q), refl))

pub seconds_held : Held arc-seconds.ended (λ M 𝓤. arc-seconds.clauses {M = M} {𝓤 = 𝓤})
seconds_held M 𝓤 𝓛 mem run κs a = by_facts 𝓤 (λ z z' w w' p q. (one p q, refl))

pub clock_seconds_held : Held clock-seconds.ended (λ M 𝓤. clock-seconds.clauses {M = M} {𝓤 = 𝓤})
clock_seconds_held M 𝓤 𝓛 mem run κs a = by_facts 𝓤 (λ z z' w w' p q. (one p q, refl))

pub to_clock_held : Held to-clock.ended (λ M 𝓤. to-clock.clauses {M = M} {𝓤 = 𝓤})
to_clock_held M 𝓤 𝓛 mem run κs a = by_facts 𝓤 (λ z z' w w' p q. (ap (λ s. record { 0 = s }) (one p q), refl))
