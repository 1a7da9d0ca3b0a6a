-- The public function's promise holds its answer fast. Assumes nothing.
use mathlib.Core.Path.{◌≡◌, refl, ap}
use Rattle.std.specs.Prelude.{Result, Ok, Err}
use Rattle.reasoning.proofs.HeldFast.{Held, by_facts, one_said}
use Rattle.book.specs.declared.fault.Fault.{Fault}
use Rattle.book.proofs.HeldFast.{fault_of, fault_back}
use Rattle.verify.specs.Verify.{Verdict, ours, not_ours, refused_at}
use Rattle.verify.specs.declared.Verdict.{Verdict as VerdictAnswer}
use Rattle.verify.specs.declared.Verdict.TheVariants as verdict-answer
use Rattle.verify.specs.Said.{said_verdict}
use Rattle.verify.specs.contracts.verify_book as verify-book

-- the reading of an answer can be taken back
abbrev verdict_from : Verdict → Result VerdictAnswer Fault
verdict_from ours = Ok verdict-answer.Ours
verdict_from (not_ours byte) = Ok (verdict-answer.NotOurs byte)
verdict_from (refused_at number byte) = Err (fault_of number byte)

verdict_back : (r : Result VerdictAnswer Fault) → verdict_from (said_verdict r) ≡ r
verdict_back (Ok verdict-answer.Ours) = refl
verdict_back (Ok (verdict-answer.NotOurs byte)) = refl
verdict_back (Err fault) = ap Err (fault_back fault)

pub verify_book_held : Held verify-book.ended (λ M 𝓤. verify-book.clauses {M = M} {𝓤 = 𝓤})
verify_book_held M 𝓤 𝓛 mem run κs a = by_facts 𝓤 (λ z z' w w' p q. (one_said said_verdict verdict_from verdict_back p q, refl))
