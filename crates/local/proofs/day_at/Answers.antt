-- Whole days, five less: the seconds are counted from day -5 on. Assumes nothing.
use Rattle.std.proofs.Common.{◌/◌, arith, w64}
use Rattle.reasoning.proofs.Whole.{is_pos, is_minus, same}
use Rattle.units.proofs.Machine.{lowered}
use Rattle.local.proofs.day_at.Goals as goal

pub overflow_sub-result : goal.overflow_sub-result
overflow_sub-result c = (lowered w64 5 (c.args.seconds / 86_400) (omega arith) (omega arith)).sum

pub returns : goal.returns
returns c =
    let low = lowered w64 5 (c.args.seconds / 86_400) (omega arith) (omega arith) in
    same low.is (is_minus (is_pos (c.args.seconds / 86_400)) (is_pos 5)) (omega arith)
