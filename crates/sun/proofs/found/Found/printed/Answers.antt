-- The almanac's day and minute of what a search found: half up, and minute 1,440 is minute 0 of the next day. Assumes nothing.
use Rattle.std.proofs.Common.{ap, sym, ◌∙◌, arith, pos, ◌+ℤ◌, ◌-ℤ◌, w64, to_z}
use Rattle.motion.proofs.TermAnswers.{print_from, print_next}
use Rattle.reasoning.proofs.Whole.{is_next}
use Rattle.units.proofs.Machine.{lowered, read, is_read, sfits_is}
use Rattle.sun.specs.Said.{values_of_found}
use Rattle.sun.proofs.found.Found.printed.Goals as goal

pub returns-then-minute-eq1440 : goal.returns-then-minute-eq1440
returns-then-minute-eq1440 c =
    let f = values_of_found c.args.self in
    let day = read w64 (to_z w64 f.day_found -ℤ pos 4) in
    let down = lowered w64 4 f.day_found (omega arith) (omega (arith, c.args.self.within)) in
    let room = sfits_is w64 (is_next down.is) (omega (arith, c.args.self.within)) (omega arith) in
    let next = is_read {w = w64} room (is_next down.is) in
    print_next f (read w64 (day +ℤ pos 1)) next (sym c.rounded_minute-minute.ensures ∙ c.if-minute-eq1440.true)

pub returns : goal.returns
returns c =
    let f = values_of_found c.args.self in
    let day = read w64 (to_z w64 f.day_found -ℤ pos 4) in
    let down = lowered w64 4 f.day_found (omega arith) (omega (arith, c.args.self.within)) in
    let minute = c.rounded_minute-minute.ensures in
    ap (λ m. record { day_of_term = day; minute_of_term = m; count_of_term = f.count_found }) minute
    ∙ print_from f day down.is (λ e. c.if-minute-eq1440.false (minute ∙ e))
