-- What the calls between bytes and values tell, and leave in the buffer that they were lent. Assumes nothing.
use Rattle.std.specs.Prelude.{List, ◌∷◌, ◌≡◌, ℕ, Result, IfOk}
use Rattle.reasoning.specs.Answer.{Answer, done, afterwards}
use Rattle.law.specs.Document.{TermValues}
use Rattle.law.specs.Index.{year_index, day_index}
use Rattle.law.specs.Book.{Checked, values_in, two_of}
use Rattle.units.specs.declared.refusal.Refusal.{Refusal}
use Rattle.book.specs.declared.fault.Fault.{Fault}
use Rattle.values.specs.declared.head.Head.{Head}
use Rattle.values.specs.declared.read.ReadValues.{ReadValues}
use Rattle.values.specs.Said.{given_year, said_values, said_written}

-- ---- reading

-- what is said of a year at the start of the bytes b, and where it is sound its head and its terms
pub record ValuesRead (b : List ℕ) (said : Checked) (r : Result ReadValues Fault) : Type 0 where
  pub says : said_values r ≡ said
  pub year : IfOk r (λ read. given_year read.head read.terms ≡ values_in b)

-- ---- writing

-- what is said of a year written, and what the buffer holds, by what a buffer is answered: as before on a refusal
pub record Told (answer : List ℕ → Answer (List ℕ)) (before after : List ℕ) (r : Result Unit Refusal) : Type 0 where
  pub says : said_written r ≡ done (answer before)
  pub holds : after ≡ afterwards before (answer before)

-- a head's record, before the rest
abbrev pub head_record : Head → List ℕ → List ℕ
head_record head rest = 1 ∷ two_of (year_index head.n) (head.day_name ∷ head.mansion ∷ rest)

-- the record of term k, before the rest
abbrev pub term_record : ℕ → TermValues → List ℕ → List ℕ
term_record k t rest = 2 ∷ k ∷ two_of (day_index t.day_of_term) (two_of t.minute_of_term rest)
