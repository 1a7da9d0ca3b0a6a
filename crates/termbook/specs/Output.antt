-- What is written for what the first line asks: the term book of its year, or a line with the refusal. Assumes nothing.
use Rattle.std.specs.Prelude.{ℤ, ℕ, List, replicate}
use Rattle.reasoning.specs.Answer.{Answer, value, refused}
use Rattle.law.specs.Book.{worked_answer}
use Rattle.law.specs.Document.{epicycles}
use Rattle.law.specs.Request.{refused_text}

-- a book of one year has 149 bytes
abbrev pub book_asked : Answer ℤ → Answer (List ℕ)
book_asked (value N) = worked_answer epicycles N (replicate 149 0)
book_asked (refused number) = refused number

abbrev pub book_or_refusal : Answer (List ℕ) → List ℕ
book_or_refusal (value bytes) = bytes
book_or_refusal (refused number) = refused_text number

abbrev pub output : Answer ℤ → List ℕ
output asked = book_or_refusal (book_asked asked)
