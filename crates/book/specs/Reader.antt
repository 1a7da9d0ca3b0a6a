-- What a reader finds, hands out and holds afterwards, and where a part of lent bytes stands. Assumes nothing.
use Rattle.std.specs.Prelude.{List, ◌≡◌, ℕ, ◌+◌, Option, Result, IfOk, IfSome}
use Rattle.std.specs.Borrow.{Bor}
use Rattle.law.specs.Book.{Next, next_at, handed_part, handed_start, byte_after, least_then, Sought, part_of, part_start}
use Rattle.book.specs.declared.reader.Reader.{Reader}
use Rattle.book.specs.declared.reader.Handed.{Handed}
use Rattle.book.specs.declared.fault.Fault.{Fault}
use Rattle.book.specs.Said.{said_call}

-- the place of byte i of lent bytes: their block of memory, and the byte within it. A part that starts there is that very part of
-- them, and no equal bytes elsewhere
abbrev pub place_in : Bor (List ℕ) → ℕ → ℕ × ℕ
place_in lent i = (lent.ref_ptr.0, i + lent.ref_ptr.1)

-- a part of lent bytes: its bytes, and the byte of theirs where it starts
pub record PartIs (lent : Bor (List ℕ)) (b : List ℕ) (start : ℕ) (part : Bor (List ℕ)) : Type 0 where
  pub bytes : part.now ≡ b
  pub place : part.ref_ptr ≡ place_in lent start

-- the part for what was sought
abbrev pub PartSought : Bor (List ℕ) → Sought → Bor (List ℕ) → Type 0
PartSought lent sought part = PartIs lent (part_of lent.now sought) (part_start sought) part

-- a reader opened on a lent book
abbrev pub opened : Bor (List ℕ) → Reader
opened book = record { book = book; last = record { end = 0; least = 0 } }

abbrev pub finds : Reader → Next
finds r = next_at r.book.now r.last.end r.last.least

-- the bytes of the part that it hands out
abbrev pub hands_out : Reader → List ℕ
hands_out r = handed_part r.book.now r.last.end (finds r)

-- the reader afterwards, on the same lent book
abbrev pub gone_on : Reader → Reader
gone_on r = record { book = r.book; last = record { end = byte_after r.last.end (finds r); least = least_then r.last.least (finds r) } }

abbrev pub said_handed : Result (Option Handed) Fault → Next
said_handed = said_call (λ handed. handed.year)

-- the part of the year that is handed out, if one is
abbrev pub IfHanded : Result (Option Handed) Fault → (Bor (List ℕ) → Type 0) → Type 0
IfHanded r Meets = IfOk r (λ h. IfSome h (λ handed. Meets handed.part))

-- what a call hands out, and the reader before and after it
pub record HandsOn (before after : Reader) (r : Result (Option Handed) Fault) : Type 0 where
  pub found : said_handed r ≡ finds before
  pub part : IfHanded r (PartIs before.book (hands_out before) (handed_start before.last.end (finds before)))
  pub reader : after ≡ gone_on before
