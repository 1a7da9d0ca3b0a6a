-- An input as the code takes it, byte by byte and block by block, and what that leaves in a lent buffer.
-- proofs/InBlocks.antt shows that what is written is document 01's output, however the input is cut. Assumes nothing.
use Rattle.std.specs.Prelude.{◌≡◌, cond, List, [], ◌∷◌, ◌++◌, ℕ, ◌+◌, ◌*◌, ◌/◌, ◌≤◌, ltb, eqb, length, take, drop}
use Rattle.law.specs.Request.{newline, answer_text}
use Rattle.request.specs.declared.line.Line.{Line}
use Rattle.request.specs.declared.line.Line.TheVariants.{Empty, Digits, NoYear}
use Rattle.request.specs.declared.answers.Fed.{Fed}
use Rattle.request.specs.Reading.{line_step, line_end}

-- the line after a byte of input
abbrev pub next_line : Line → ℕ → Line
next_line line b = cond (eqb b newline) Empty (line_step line b)

-- what that byte writes
abbrev pub byte_text : Line → ℕ → List ℕ
byte_text line b = cond (eqb b newline) (answer_text (line_end line)) []

-- the line after a block
unfoldable pub state_after : Line → List ℕ → Line
state_after line [] = line
state_after line (b ∷ bs) = state_after (next_line line b) bs

-- what the block writes
unfoldable pub text_after : Line → List ℕ → List ℕ
text_after line [] = []
text_after line (b ∷ bs) = byte_text line b ++ text_after (next_line line b) bs

-- what the input's end writes: a last line without its newline counts if it has bytes
abbrev pub closing : Line → List ℕ
closing Empty = []
closing (Digits minus count size) = answer_text (line_end (Digits minus count size))
closing NoYear = answer_text (line_end NoYear)

-- of a block, as many bytes as the buffer has room for, 32 for each
abbrev pub fitting_block : List ℕ → List ℕ → List ℕ
fitting_block block out = take (length out / 32) block

-- at the input's end too: 32 bytes, or nothing is written
abbrev pub closing_in : Line → List ℕ → List ℕ
closing_in line out = cond (ltb (length out) 32) [] (closing line)

-- n counts bytes at the start of out, said in both ways that a caller's `&out[..n]` asks for
abbrev pub Counted : ℕ → List ℕ → Type 0
Counted n out = (n ≤ length out) × (n ≡ length (take n out))

-- what a byte of input leaves in a buffer of which some bytes were written
pub record Took (from : Fed) (b : ℕ) (out out' : List ℕ) (r : Fed) : Type 0 where
  pub next : r.line ≡ next_line from.line b
  pub text : take r.written out' ≡ take from.written out ++ byte_text from.line b
  pub least : from.written ≤ r.written
  pub rest : drop r.written out' ≡ drop r.written out
  pub one : r.taken ≡ from.taken + 1
  pub most : r.written ≤ 32 * r.taken

-- what a block leaves
pub record Feeds (line : Line) (block out out' : List ℕ) (r : Fed) : Type 0 where
  pub next : r.line ≡ state_after line block
  pub text : take r.written out' ≡ text_after line block
  pub counts : Counted r.written out'
  pub rest : drop r.written out' ≡ drop r.written out
  pub all : r.taken ≡ length block

-- what the input's end leaves, where this is to be written
pub record Ends (text out out' : List ℕ) (r : ℕ) : Type 0 where
  pub first : take r out' ≡ text
  pub counts : Counted r out'
  pub rest : drop r out' ≡ drop r out
