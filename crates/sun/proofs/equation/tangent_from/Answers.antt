-- The long side is shorter than the radius up to the quarter circle and longer past it. Assumes nothing.
use Rattle.std.proofs.Common.{ap, ◌∙◌}
use Rattle.law.specs.Document.{epicycles}
use Rattle.motion.specs.Working.{height_of, base_of}
use Rattle.motion.proofs.Bridge.{folded_near, folded_far, tangent_near, tangent_far}
use Rattle.sun.proofs.equation.tangent_from.Goals as goal

pub returns-then-u-le-QUARTER : goal.returns-then-u-le-QUARTER
returns-then-u-le-QUARTER c =
    let near = c.if-u-le-QUARTER.true in
    let x = folded_near c.args.u near in
    c.half_up.ensures
    ∙ tangent_near epicycles c.args.u c.args.height c.args.base near (c.requires.1 ∙ ap (height_of epicycles) x) (c.requires.2 ∙ ap (base_of epicycles) x)

pub returns : goal.returns
returns c =
    let far = c.if-u-le-QUARTER.false in
    let x = folded_far c.args.u far c.requires.0 in
    c.half_up-2.ensures
    ∙ tangent_far epicycles c.args.u c.args.height c.args.base far (c.requires.1 ∙ ap (height_of epicycles) x) (c.requires.2 ∙ ap (base_of epicycles) x)
