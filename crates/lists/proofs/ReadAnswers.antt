-- What is answered for a list of so many records, by what the year by value said, and the list afterwards. Assumes nothing.
use mathlib.Core.List.{List, ◌++◌, map}
use mathlib.Core.Path.{◌≡◌, refl, sym, ap, ◌∙◌}
use Prim.Native.Nat.{ℕ, ◌≤◌, ◌<◌}
use lib.ListN.{length, drop}
use Rattle.std.specs.Prelude.{Result, Ok, Err}
use Rattle.reasoning.specs.Answer.{Answer}
use Rattle.law.specs.Document.{filled}
use Rattle.law.specs.Book.{BookYear, Checked, year_from, read_answer, head_of, terms_read}
use Rattle.units.specs.declared.refusal.Refusal.TheVariants.{TooShort}
use Rattle.sun.specs.declared.term.TermRecord.{TermRecord}
use Rattle.sun.specs.Said.{values_of_term}
use Rattle.book.specs.declared.fault.Fault.{Fault}
use Rattle.book.specs.declared.seek.NoYear.{NoYear}
use Rattle.book.specs.declared.seek.NoYear.TheVariants.{Unsound, Refused}
use Rattle.values.specs.Told.{ValuesRead}
use Rattle.values.specs.declared.read.ReadValues.{ReadValues}
use Rattle.values.proofs.ReadForRoom.{read_6, read_as}
use Rattle.lists.specs.declared.read.ReadYear.{ReadYear}
use Rattle.lists.specs.Read.{YearRead, ListRead}
use Rattle.lists.proofs.ListFilled.{list_stored}

module _ (b : List ℕ) (l : List TermRecord) where
  -- what is answered decides
  answered : {answer : Answer Checked} {l' : List TermRecord} {r : Result ReadYear NoYear} → read_answer b (length l) ≡ answer → YearRead b answer r
      → map values_of_term l' ≡ filled (terms_read answer b) (map values_of_term l) → ListRead b l l' r
  answered e y q = record { year = rw e y; list = rw e q }

  pub short_list : length l < 24 → ListRead b l l (Err (Refused TooShort))
  short_list h = answered (read_6 b (length l) h) (record { says = refl; head = tt }) refl

  module _ (h : 24 ≤ length l) where
    pub list_unsound : (fault : Fault) → ValuesRead b (year_from 0 0 b) (Err fault) → ListRead b l l (Err (Unsound fault))
    list_unsound fault w = answered (read_as b (length l) h (sym w.says)) (record { says = refl; head = tt }) refl

    pub list_read : (v : ReadValues) → ValuesRead b (year_from 0 0 b) (Ok v) → ListRead b l (v.terms ++ drop 24 l) (Ok (record { end = v.end; head = v.head }))
    list_read v w =
        answered (read_as b (length l) h (sym w.says)) (record { says = refl; head = ap head_of w.year })
        (list_stored v.terms l ∙ ap (λ (y : BookYear). y.year_terms ++ drop 24 (map values_of_term l)) w.year)
