-- What a year worked out answers: the document's terms and values. Assumes nothing.
use mathlib.Core.List.{List}
use mathlib.Core.Path.{◌≡◌, sym, ◌∙◌}
use Prim.Native.Nat.{ℕ}
use lib.IntN.{ℤ}
use Rattle.std.specs.Prelude.{Result, Ok, Err}
use Rattle.reasoning.specs.Answer.{Answer, value}
use Rattle.reasoning.specs.InOrder.{in_order}
use Rattle.reasoning.proofs.Indexed.{Indexed}
use Rattle.law.specs.Document.{epicycles, TermValues}
use Rattle.motion.specs.Working.{term_of}
use Rattle.motion.proofs.Bridge.{year_values_is}
use Rattle.units.specs.declared.refusal.Refusal.{Refusal}
use Rattle.sun.specs.declared.worked_year.WorkedYear.{WorkedYear}
use Rattle.sun.specs.Worked.{WorkedIn, WorkedOut}

-- a year inside is the document's
pub worked_out : {N : ℤ} {y : ℕ} {answer : Answer (List TermValues)} (w : Result WorkedYear Refusal) → Indexed 2_000 2_000 N y
    → WorkedIn y w → value (in_order (term_of epicycles y) 24) ≡ answer → WorkedOut N answer w
worked_out (Ok w) n k q = record { says = k.says ∙ q; values = k.values ∙ sym (year_values_is n.is) }
worked_out (Err r) n k q = record { says = k.says ∙ q; values = tt }
