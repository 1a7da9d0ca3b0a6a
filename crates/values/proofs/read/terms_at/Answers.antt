-- Each element of the array is the term at its place. Assumes nothing.
use Rattle.std.proofs.Common.{◌+◌, ◌*◌, drop, rules}
use Rattle.law.specs.Book.{term_in}
use Rattle.sun.specs.Said.{values_of_term}
use Rattle.sun.specs.Worked.{zero_record}
use Rattle.values.proofs.MadeInOrder.{made_in_order}
use Rattle.values.proofs.read.terms_at.Goals as goal

pub returns : goal.returns
returns c =
    made_in_order _ _ values_of_term (λ k. term_in (drop (5 + k * 6) c.args.bytes.now)) 24 (λ i y q l k. search rules) c.from_fn.result zero_record c.from_fn.ensures.items
