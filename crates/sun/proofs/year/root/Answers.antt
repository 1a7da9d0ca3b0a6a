-- The split product is the plain half_up one. Assumes nothing.
use Rattle.std.proofs.Common.{◌≡◌, ◌+◌, ◌*◌, ◌-◌, ◌/◌, ◌%◌, arith}
use Rattle.law.specs.Document.{day, daily_motion}
use Rattle.motion.specs.Working.{root_from}
use Rattle.motion.proofs.Root.{root_split, root_le}
use Rattle.sun.proofs.year.root.Goals as goal

pub overflow_add-result : goal.overflow_add-result
overflow_add-result c =
    let s = c.args.solstice in
    let is : (day - s % day) * (daily_motion / day) + c.half_up.result ≡ root_from s = omega (arith, root_split s, c.half_up.ensures) in
    record { fits = omega (arith, is, root_le s) }

pub returns : goal.returns
returns c =
    let s = c.args.solstice in
    let is : (day - s % day) * (daily_motion / day) + c.half_up.result ≡ root_from s = omega (arith, root_split s, c.half_up.ensures) in
    (is, omega (arith, is, root_le s))
