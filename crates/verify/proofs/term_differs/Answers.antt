-- The day is compared first, and then the minute. Assumes nothing.
use Rattle.std.proofs.Common.{rules}
use Rattle.sun.specs.Said.{values_of_term}
use Rattle.verify.proofs.TermFields.{other_day, same_day}
use Rattle.verify.proofs.term_differs.Goals as goal

pub returns-then-two_at-term : goal.returns-then-two_at-term
returns-then-two_at-term c =
    other_day c.args.bytes.now (values_of_term c.args.term) c.two_at.result c.two_at.ensures (search rules) c.requires c.if-two_at-term.true

pub returns-else-two_at-term : goal.returns-else-two_at-term
returns-else-two_at-term c =
    same_day c.args.bytes.now (values_of_term c.args.term) c.two_at.result c.two_at.ensures (search rules) c.if-two_at-term.false c.two_at-else-two_at-term.result c.two_at-else-two_at-term.ensures.0
