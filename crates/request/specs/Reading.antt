-- A request line as the code reads it, a byte at a time. proofs/ReadLine.antt shows that it asks what document 01 says.
-- Assumes nothing.
use Rattle.std.specs.Prelude.{Bool, true, false, cond, List, ℕ, ◌+◌, ◌-◌, ◌*◌, ltb, eqb, ℤ, fold}
use Rattle.reasoning.specs.Answer.{Answer, value, refused, refusing}
use Rattle.law.specs.Request.{minus_sign, no_digit, year_asked}
use Rattle.request.specs.declared.line.Line.{Line}
use Rattle.request.specs.declared.line.Line.TheVariants.{Empty, Digits, NoYear}

-- a byte more after a sign and some digits: a fifth digit is no year
abbrev pub digit_step : Bool → ℕ → ℕ → ℕ → Line
digit_step minus count size b =
    cond (no_digit b) NoYear
    (cond (ltb count 4) (cond (ltb size 1_000) (Digits minus (count + 1) (size * 10 + (b - 48))) NoYear) NoYear)

-- a byte more of a line
abbrev pub line_step : Line → ℕ → Line
line_step Empty b = cond (eqb b minus_sign) (Digits true 0 0) (digit_step false 0 0 b)
line_step (Digits minus count size) b = digit_step minus count size b
line_step NoYear b = NoYear

-- what the line asks, once it has ended
abbrev pub line_end : Line → Answer ℤ
line_end Empty = refused 11
line_end (Digits minus count size) = refusing (eqb count 0) 11 (year_asked minus (value size))
line_end NoYear = refused 11

-- the line after some bytes
abbrev pub line_after : Line → List ℕ → Line
line_after line bytes = fold line_step line bytes
