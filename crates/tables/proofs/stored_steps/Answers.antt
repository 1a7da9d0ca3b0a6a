-- The code's steps are those of the definition's table: one list, computed. Assumes nothing.
use Rattle.std.proofs.Common.{refl}
use Rattle.law.specs.Sines.{sines}
use Rattle.tables.specs.Steps.{steps_of}
use Rattle.tables.proofs.stored_steps.Goals as goal

pub returns : goal.returns
unfolding steps_of sines
returns c = refl
