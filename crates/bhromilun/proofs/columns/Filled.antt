-- An array that a closure made of one part of each term is that column of the terms. Assumes nothing.
use mathlib.Core.List.{List, map, map-id}
use mathlib.Core.Path.{◌≡◌, sym, ◌∙◌, ap}
use Prim.Native.Nat.{ℕ, ◌<◌}
use denote.Param.Members.{Mut}
use lib.ListN.{length, get_or, length-map, get_or-map}
use Rattle.std.specs.Array.{IsFromFnResult}
use Rattle.std.specs.Fn.{Called}
use Rattle.reasoning.proofs.InOrder.{filled_all}
use Rattle.law.specs.Document.{TermValues}
use Rattle.sun.specs.declared.term.TermRecord.{TermRecord}
use Rattle.sun.specs.Said.{values_of_term}
use Rattle.sun.specs.Worked.{zero_record}
use Rattle.values.proofs.MadeInOrder.{made_in_order}

-- the part of the term at a place
abbrev pub part_at : {B : Type 0} → (TermValues → B) → List TermRecord → ℕ → B
part_at part terms k = part (values_of_term (get_or terms k zero_record))

pub column_made : {F B : Type 0} {g : Mut F (ℕ × Unit {0}) B} {f : F} (part : TermValues → B) (terms : List TermRecord) (ys : List B) → length terms ≡ 24
    → ((i : ℕ) (y : B) (q : F) → i < 24 → Called g f (i, tt) y q → (q ≡ f) × (y ≡ part_at part terms i)) → IsFromFnResult g f ys 24 → ys ≡ map part (map values_of_term terms)
column_made {g = g} {f = f} part terms ys long gives made =
    sym (map-id ys)
    ∙ (made_in_order g f (λ y. y) (part_at part terms) 24 gives ys (part (values_of_term zero_record)) made
    ∙ sym (filled_all part (part_at part terms) (values_of_term zero_record) (map values_of_term terms) 24 (length-map terms values_of_term ∙ long)
    (record { at = λ (i : ℕ) (l : i < 24). ap part (get_or-map values_of_term terms i zero_record) })))
