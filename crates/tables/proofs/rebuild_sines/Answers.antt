-- Each step that is read leads to the next entry, and the place that is stored is one more of the table. Assumes nothing.
use Rattle.std.proofs.Common.{refl, sym, arith}
use Rattle.law.proofs.Rules.{sine_ends}
use Rattle.tables.proofs.Adding.{step_read, one_more, last_one}
use Rattle.tables.proofs.rebuild_sines.Goals as goal

pub loop-k-init : goal.loop-k-init
loop-k-init c = (refl, sym sine_ends.0)

pub overflow_add-entry : goal.overflow_add-entry
overflow_add-entry c =
    let h = step_read c.stored_steps-step-items.ensures c.loop-k.k c.loop-k-test.true in
    record { fits = omega (arith, c.loop-k.invariant.1, h.next, h.most) }

pub loop-k-preserved : goal.loop-k-preserved
loop-k-preserved c =
    let h = step_read c.stored_steps-step-items.ensures c.loop-k.k c.loop-k-test.true in
    (one_more c.args.table.now c.loop-k.k c.told-table (omega arith) c.loop-k.invariant, omega (arith, c.loop-k.invariant.1, h.next))

pub returns : goal.returns
returns c = last_one c.args.table.now c.loop-k.k c.told-table (omega arith) c.loop-k.invariant
