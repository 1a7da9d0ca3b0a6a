-- For C a book that is ours is 0 and stores nothing, one with a record that is not ours is 100 and stores its byte, and a refusal is its own
-- number and stores its byte, as the header says; no refusal has the number 100. The promise alone would hold with others in the definition
-- and the code together. Assumes nothing.
use mathlib.Core.Path.{◌≡◌, refl, sym, ◌∙◌, ap}
use Prim.Native.Nat.{ℕ}
use native.Mathlib.Omega.{arith}
use Rattle.units.specs.declared.refusal.Refusal.{Refusal}
use Rattle.units.specs.Said.{number_of}
use Rattle.units.proofs.HeldFast.{refusal_of, refusal_back}
use Rattle.verify.specs.Verify.{ours, not_ours, refused_at}
use Rattle.bhromilun.specs.Books.{not_ours_number, verdict_number, verdict_byte}

pub ours_is_0 : verdict_number ours ≡ 0
ours_is_0 = refl

pub not_ours_is_100 : (at : ℕ) → verdict_number (not_ours at) ≡ 100
not_ours_is_100 at = refl

pub its_number : (number byte : ℕ) → verdict_number (refused_at number byte) ≡ number
its_number number byte = refl

pub nothing_stored : (before : ℕ) → verdict_byte before ours ≡ before
nothing_stored before = refl

pub its_byte : (before at : ℕ) → verdict_byte before (not_ours at) ≡ at
its_byte before at = refl

pub byte_at_fault : (before number byte : ℕ) → verdict_byte before (refused_at number byte) ≡ byte
byte_at_fault before number byte = refl

pub no_refusal : (r : Refusal) → number_of r ≡ not_ours_number → ⊥
unfolding refusal_of
no_refusal r h =
    let last : ◌≡◌ {A = ℕ} 12 100 = ap (λ (n : ℕ). number_of (refusal_of n)) (sym h) ∙ (ap number_of (refusal_back r) ∙ h) in
    omega arith
