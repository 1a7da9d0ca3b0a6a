-- What a call answers: a value, or document 01's number of a refusal. Assumes nothing.
use Rattle.std.specs.Prelude.{Bool, true, false, ℕ}

pub data Answer (A : Type 0) : Type 0 where
  value : A → Answer A
  refused : ℕ → Answer A

-- refused with this number where the test holds; else what follows: so refusals are read in their order
abbrev pub refusing : {A : Type 0} → Bool → ℕ → Answer A → Answer A
refusing true number next = refused number
refusing false number next = next

-- the answer without its value: done, or refused
abbrev pub done : {A : Type 0} → Answer A → Answer Unit
done (value v) = value tt
done (refused number) = refused number

-- what was lent to be filled, afterwards: nothing is altered by a refusal
abbrev pub afterwards : {A : Type 0} → A → Answer A → A
afterwards before (value filled) = filled
afterwards before (refused number) = before

-- a refusal's number, and 0 where there is none
abbrev pub refusal_in : {A : Type 0} → Answer A → ℕ
refusal_in (value v) = 0
refusal_in (refused number) = number

-- one part of the value
abbrev pub part : {A B : Type 0} → (A → B) → Answer A → Answer B
part f (value v) = value (f v)
part f (refused number) = refused number
