-- What is printed of the search's find. Assumes nothing.
use Rattle.std.proofs.Common.{ap, ◌∙◌}
use Rattle.reasoning.specs.Answer.{value, part}
use Rattle.motion.specs.Working.{print_of, term_of}
use Rattle.sun.proofs.term.term_in.Goals as goal

pub returns : goal.returns
unfolding term_of
returns c = ap value c.printed.ensures ∙ ap (part print_of) c.in_ok-found.ensures
