-- The crossing of what a search found: its night counted as document 01 counts days, and the minute cut off. Assumes nothing.
use Rattle.std.proofs.Common.{ap, ◌∙◌, arith, pos, ◌-ℤ◌, w64, to_z}
use Rattle.motion.proofs.TermAnswers.{cut_from}
use Rattle.units.proofs.Machine.{lowered, read}
use Rattle.sun.specs.Said.{values_of_found}
use Rattle.sun.proofs.found.Found.cut_off.Goals as goal

pub returns : goal.returns
returns c =
    let f = values_of_found c.args.self in
    let day = read w64 (to_z w64 f.day_found -ℤ pos 4) in
    let down = lowered w64 4 f.day_found (omega arith) (omega (arith, c.args.self.within)) in
    ap (λ m. record { day_of_crossing = day; minute_of_crossing = m }) c.cut_minute.ensures ∙ cut_from f day down.is
