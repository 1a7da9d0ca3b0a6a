-- The first k steps add up to the entry at k, which four bytes hold. Assumes nothing.
use Rattle.std.proofs.Common.{rules, ◌∙◌, arith, take}
use Rattle.std.proofs.lemmas.Iterator.{YieldsList-from_slice, YieldsList-from_map}
use Rattle.std.proofs.lemmas.Iterator.Consumers.{YieldsList-at, sum_by_from_yields_List, fits_by_from_yields_list}
use Rattle.law.proofs.Rules.{sine_top}
use Rattle.tables.proofs.Adding.{steps_sum}
use Rattle.tables.proofs.added_up.Goals as goal

pub sum-requires-clause-fits : goal.sum-requires-clause-fits
sum-requires-clause-fits c =
    let steps = take c.args.k c.stored_steps.result.now in
    fits_by_from_yields_list (λ x. x) steps c.map.result _
    (YieldsList-from_map _ (λ x. x) (YieldsList-at c.map.ensures.source (YieldsList-from_slice steps (cc))) c.map.ensures.closure (λ x r q k. search rules))
    (omega (arith, steps_sum c.stored_steps.result.now c.args.k c.stored_steps.ensures c.requires, sine_top c.args.k c.requires))

pub returns : goal.returns
returns c =
    let steps = take c.args.k c.stored_steps.result.now in
    sum_by_from_yields_List (λ x. x) steps c.map.result c.sum.result c.sum.ensures.ran
    (YieldsList-from_map _ (λ x. x) (YieldsList-at c.map.ensures.source (YieldsList-from_slice steps (cc))) c.map.ensures.closure (λ x r q k. search rules))
    ∙ steps_sum c.stored_steps.result.now c.args.k c.stored_steps.ensures c.requires
