-- The quotient, and one more where what it leaves is half the divisor or more. Assumes nothing.
use Rattle.std.proofs.Common.{◌*◌, ◌+◌, sym, arith}
use native.Mathlib.Nat.{div-zero}
use Rattle.law.specs.Round.{half_up}
use Rattle.units.proofs.arithmetic.Rounds.{half_up_down, half_up_more}
use Rattle.units.proofs.arithmetic.half_up.Goals as goal

pub returns-then-d-eq0 : goal.returns-then-d-eq0
unfolding half_up
returns-then-d-eq0 c = rw c.if-d-eq0.true (sym (div-zero (2 * c.args.n + 0)))

pub returns-then-rest-d : goal.returns-then-rest-d
returns-then-rest-d c = half_up_down c.args.n c.args.d (omega arith) c.if-rest-d.true

pub returns : goal.returns
returns c = half_up_more c.args.n c.args.d (omega arith) c.if-rest-d.false
