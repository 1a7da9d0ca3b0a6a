-- The column is what the closure gives of each term. Assumes nothing.
use Rattle.std.proofs.Common.{rules}
use Rattle.bhromilun.proofs.columns.Filled.{column_made}
use Rattle.bhromilun.proofs.columns.counts_of.Goals as goal

pub returns : goal.returns
returns c = column_made (λ v. v.count_of_term) c.args.terms.now c.from_fn.result (search rules) (λ i y q l k. (search rules, search rules)) c.from_fn.ensures.items
