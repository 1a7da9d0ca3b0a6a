-- The code's table and the definition's are one list. Assumes nothing.
use Rattle.std.proofs.Common.{refl}
use Rattle.law.specs.Tangents.{tangents}
use Rattle.tables.proofs.stored_tangents.Goals as goal

pub returns : goal.returns
unfolding tangents
returns c = refl
