-- What is taken of an input, where its bytes are known, to read its first line. Assumes nothing.
use Rattle.std.specs.Prelude.{◌≢◌, ℕ, ◌≤◌, List, length, Option, All, Result, MatchResult}
use Rattle.std.specs.Io.{StopsAt}
use Rattle.std.specs.Io.KnownBytes.{Consumes}
use Rattle.law.specs.Request.{newline}

abbrev pub NoNewline : ℕ → Type 0
NoNewline b = b ≢ newline

-- of the first line and its newline alone: none of the bytes before the last is a newline, and none at all where a read has failed
pub record TakesOfLine {A E : Type 0} (input left : Option (List ℕ)) (result : Result A E) : Type 0 where
  pub taken : List ℕ
  pub consumed : Consumes input left taken
  pub most : length taken ≤ 6
  pub within : MatchResult result (λ _. StopsAt taken newline) (λ _. All NoNewline taken)
