-- Each term is what the closure gives of its place. Assumes nothing.
use Rattle.std.proofs.Common.{rules}
use Rattle.sun.specs.Said.{values_of_term}
use Rattle.sun.specs.Worked.{zero_record}
use Rattle.values.proofs.MadeInOrder.{made_in_order}
use Rattle.bhromilun.specs.Columns.{term_given}
use Rattle.bhromilun.proofs.columns.terms_from.Goals as goal

pub returns : goal.returns
returns c =
    made_in_order _ _ values_of_term (term_given c.args.days.now c.args.minutes.now) 24 (λ i y q l k. (search rules, search rules)) c.from_fn.result zero_record c.from_fn.ensures.items
