-- The search begins at the document's start with eight midnights left, which is enough. Assumes nothing.
use Rattle.std.proofs.Common.{ap, ◌∙◌, arith}
use Rattle.reasoning.specs.Answer.{value}
use Rattle.motion.proofs.Root.{root_of_le}
use Rattle.motion.proofs.Finds.{begins}
use Rattle.sun.proofs.term.find.Goals as goal

pub overflow_sub-start : goal.overflow_sub-start
overflow_sub-start c = omega (arith, c.args.year.rooted, root_of_le c.args.year.y)

pub overflow_sub-start-2 : goal.overflow_sub-start-2
overflow_sub-start-2 c = omega (arith, c.args.year.rooted, root_of_le c.args.year.y)

pub walk-requires : goal.walk-requires
walk-requires c =
    let b = begins c.args.year.y c.args.k c.args.year.root c.requires c.args.year.rooted in
    record {
      some = omega arith;
      days = b.days;
      most = omega arith;
      reached = b.reached;
      behind = omega arith;
      known = b.known;
    }

pub returns : goal.returns
returns c =
    let b = begins c.args.year.y c.args.k c.args.year.root c.requires c.args.year.rooted in
    c.walk.ensures ∙ ap value b.is
