-- At the last entry nothing is over; before it the step is the difference of two entries. Assumes nothing.
use Rattle.std.proofs.Common.{◌+◌, ◌-◌, ◌/◌, sym, ◌∙◌, ap₂, arith}
use Rattle.law.specs.Document.{ten_minutes}
use Rattle.law.proofs.Rules.{sine_step}
use Rattle.law.proofs.Sines.{sine_last, sine_le}
use Rattle.tables.proofs.Entries.{sine_read}
use Rattle.sun.proofs.equation.SineTable.sine_of.Goals as goal

pub returns-then-k-eq540 : goal.returns-then-k-eq540
returns-then-k-eq540 c =
    let x = c.args.x in
    let e = sine_read c.args.self.laid (x / ten_minutes) ∙ sym (sine_last x c.requires (omega arith)) in
    (e, omega (arith, e, sine_le x c.requires))

pub overflow_sub-self : goal.overflow_sub-self
overflow_sub-self c =
    let k = c.args.x / ten_minutes in
    omega (arith, sine_read c.args.self.laid k, sine_read c.args.self.laid (k + 1), sine_step k (omega arith))

pub between-requires : goal.between-requires
between-requires c =
    let k = c.args.x / ten_minutes in
    (c.requires, sine_read c.args.self.laid k, ap₂ (λ above below. above - below) (sine_read c.args.self.laid (k + 1)) (sine_read c.args.self.laid k))
