-- What the year call says and leaves in the list. Assumes nothing.
use Rattle.std.specs.Prelude.{List, map, ◌≡◌, Result}
use Rattle.reasoning.specs.Answer.{Answer, done}
use Rattle.law.specs.Document.{TermValues, filled}
use Rattle.units.specs.declared.refusal.Refusal.{Refusal}
use Rattle.units.specs.Said.{said}
use Rattle.sun.specs.declared.term.TermRecord.{TermRecord}
use Rattle.sun.specs.Said.{values_of_term}

-- a list afterwards, and what is said
pub record Fills (answer : Answer (List TermValues)) (before after : List TermRecord) (r : Result Unit Refusal) : Type 0 where
  pub says : said (λ u. tt) r ≡ done answer
  pub list : map values_of_term after ≡ filled answer (map values_of_term before)
