-- What a call leaves: its number, and what lies behind the pointers that it was lent. Assumes nothing.
use Rattle.std.specs.Prelude.{◌≡◌, ℕ}
use Rattle.std.specs.Borrow.{MutBor}
use denote.Triple.Both.{Both}
use Rattle.reasoning.specs.Answer.{Answer, refusal_in, afterwards, part}

-- what lies behind a pointer as the call begins, and as it ends
pub record Lent (A : Type 0) : Type 0 where
  pub before : A
  pub after : A

abbrev pub lent : {A : Type 0} → Both (MutBor A) (MutBor A) → Lent A
lent pointer = record { before = pointer.entry.now; after = pointer.exit.now }

-- one part of the value is stored there; a refusal leaves what was there
abbrev pub Stored : {A B : Type 0} → Answer A → (A → B) → Lent B → Type 0
Stored answer of place = place.after ≡ afterwards place.before (part of answer)

-- an answer of one value: 0 and the value, or the refusal's number and nothing stored
pub record Told {A : Type 0} (answer : Answer A) (r : ℕ) (place : Lent A) : Type 0 where
  pub number : r ≡ refusal_in answer
  pub stored : place.after ≡ afterwards place.before answer
