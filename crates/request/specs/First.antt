-- The first line of an input as the code takes it, block by block. proofs/FirstLine.antt shows that it asks what document 01 says of
-- the whole input, however that is cut. Assumes nothing.
use Rattle.std.specs.Prelude.{Bool, true, false, cond, List, [], ◌∷◌, ℕ, eqb, ℤ}
use Rattle.reasoning.specs.Answer.{Answer, refused}
use Rattle.law.specs.Request.{newline}
use Rattle.units.specs.Said.{said_signed}
use Rattle.request.specs.declared.line.Line.{Line}
use Rattle.request.specs.declared.line.Line.TheVariants.{Empty, Digits, NoYear}
use Rattle.request.specs.declared.first.First.{First}
use Rattle.request.specs.declared.first.First.TheVariants.{Asked, Open}
use Rattle.request.specs.Reading.{line_step, line_end}

-- the line asks this, whatever follows; or it is open, and this is the line so far
pub data Reached : Type 0 where
  asks : Answer ℤ → Reached
  still : Line → Reached

abbrev pub said_first : First → Reached
said_first (Asked asked) = asks (said_signed asked)
said_first (Open line) = still line

-- a line that has ended asks; of one that has not, no year can only be refused 11
abbrev pub settled : Bool → Line → Reached
settled true line = asks (line_end line)
settled false Empty = still Empty
settled false (Digits minus count size) = still (Digits minus count size)
settled false NoYear = asks (refused 11)

-- the line after a block: it ends at its newline
unfoldable pub first_after : Line → List ℕ → Reached
first_after line [] = settled false line
first_after line (b ∷ bs) = cond (eqb b newline) (settled true line) (first_after (line_step line b) bs)
