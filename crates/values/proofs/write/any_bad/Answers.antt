-- The iterator's answer is the definition's. Assumes nothing.
use Rattle.std.proofs.Common.{◌∙◌, rules, tests}
use Rattle.std.proofs.lemmas.Iterator.{YieldsList-from_slice}
use Rattle.std.proofs.lemmas.Iterator.Search.{any_from_yields_List}
use Rattle.law.specs.Book.{bad_term_values}
use Rattle.sun.specs.Said.{values_of_term}
use Rattle.values.proofs.GivenTerms.{any_bad_is}
use Rattle.values.proofs.write.any_bad.Goals as goal

pub returns : goal.returns
returns c =
    let ts = c.args.terms.now in
    any_from_yields_List (λ t. bad_term_values (values_of_term t)) _ _ c.any.result c.any.ensures.ran (YieldsList-from_slice ts cc) (λ x b q k. search (rules, tests))
    ∙ any_bad_is ts
