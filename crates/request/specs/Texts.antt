-- What is written for a line's answer, and what a text leaves in a buffer. Assumes nothing.
use Rattle.std.specs.Prelude.{◌≡◌, List, ◌++◌, ℕ, ◌+◌, ◌≤◌, length, take, drop, Result, Ok, Err}
use Rattle.law.specs.Request.{refused_text}
use Rattle.units.specs.declared.refusal.Refusal.{Refusal}
use Rattle.units.specs.Said.{number_of}

-- a text, or the refusal's
abbrev pub written : Result (List ℕ) Refusal → List ℕ
written (Ok text) = text
written (Err refusal) = refused_text (number_of refusal)

-- of a buffer of which at bytes were written
pub record Puts (text : List ℕ) (at : ℕ) (out out' : List ℕ) (r : ℕ) : Type 0 where
  pub first : take r out' ≡ take at out ++ text
  pub end : r ≡ at + length text
  pub most : length text ≤ 32
  pub rest : drop r out' ≡ drop r out
