-- The return trips as two calls in a row: from what `read_year` says and leaves in a list, `write_year_from` writes the same 149 bytes;
-- and what that has written is what `read_year` says and leaves again, counts aside. Stated on their contracts. Assumes nothing.
use mathlib.Core.List.{List, [], ◌∷◌, ◌++◌, map}
use mathlib.Core.Path.{◌≡◌, refl, sym, ap, ap₂, ◌∙◌}
use Prim.Native.Nat.{ℕ, zero, suc, ◌≤◌}
use native.Mathlib.Omega.{arith}
use lib.Dec.{ltb}
use lib.ListN.{length, take, drop, length-map}
use lib.Seq.{take_at}
use Rattle.std.specs.Prelude.{Result, Ok}
use Rattle.reasoning.specs.Answer.{Answer, value, refused, done, afterwards}
use Rattle.reasoning.proofs.Answers.{passed}
use Rattle.law.specs.Document.{TermValues, filled}
use Rattle.law.specs.Book.{BookYear, Checked, sound, year_from, values_in, read_answer, HeadValues, head_read, terms_read, write_answer}
use Rattle.units.specs.declared.refusal.Refusal.{Refusal}
use Rattle.units.proofs.HeldFast.{one_answer}
use Rattle.sun.specs.declared.term.TermRecord.{TermRecord}
use Rattle.sun.specs.Said.{values_of_term}
use Rattle.book.specs.declared.seek.NoYear.{NoYear}
use Rattle.values.specs.declared.head.Head.{Head}
use Rattle.lists.specs.declared.read.ReadYear.{ReadYear}
use Rattle.values.specs.Said.{given_year}
use Rattle.values.specs.Told.{Told}
use Rattle.lists.specs.Read.{ListRead}
use Rattle.values.proofs.ReadForRoom.{terms_many}
use Rattle.values.proofs.ReadIsWritten.{Bytes}
use Rattle.values.proofs.WrittenIsRead.{uncounted}
use Rattle.values.proofs.ReturnTrips.{written_is_read, read_is_written}
use Rattle.lists.proofs.HeldFast.{year_read_from, year_read_back}

map_take : {A B : Type 0} (f : A → B) (n : ℕ) (l : List A) → map f (take n l) ≡ take n (map f l)
map_take f zero l = refl
map_take f (suc n) [] = refl
map_take f (suc n) (x ∷ l) = ap (λ r. f x ∷ r) (map_take f n l)

take_few : {A : Type 0} (n : ℕ) (l : List A) → length (take n l) ≤ n
take_few zero l = omega arith
take_few (suc n) [] = omega arith
take_few (suc n) (x ∷ l) = let h = take_few n l in omega arith

-- ---- what is read is written

-- the bytes s were read into a list, which then holds list'
module _ (s : List ℕ) (are : Bytes s) (list list' : List TermRecord) (r : ReadYear) (read : ListRead s list list' (Ok r)) where
  answered : read_answer s (length list) ≡ value (sound r.end)
  answered = sym read.year.says

  accepted : year_from 0 0 s ≡ sound r.end
  unfolding read_answer
  accepted = sym (passed (ltb (length list) 24) 6 (year_from 0 0 s) read.year.says).is

  terms : map values_of_term (take 24 list') ≡ (values_in s).year_terms
  unfolding values_in
  terms =
      let whole = read.list ∙ ap (λ (a : Answer Checked). filled (terms_read a s) (map values_of_term list)) answered in
      map_take values_of_term 24 list' ∙ (ap (take 24) whole ∙ take_at (values_in s).year_terms (drop 24 (map values_of_term list)) 24 (terms_many 24 _))

  values : given_year r.head (take 24 list') ≡ values_in s
  values =
      let head = read.year.head ∙ ap (λ (a : Answer Checked). head_read a s) answered in
      ap₂ (λ (h : HeadValues) (ts : List TermValues). record { year_n = h.head_n; year_name = h.head_name; year_mansion = h.head_mansion; year_terms = ts }) head terms

  -- from that head and that list they are written into any buffer that has room
  pub read_then_written : (b b' : List ℕ) (w : Result Unit Refusal) → 149 ≤ length b → Told (write_answer (given_year r.head (take 24 list'))) b b' w
      → (w ≡ Ok tt) × (b' ≡ take 149 s ++ drop 149 b)
  read_then_written b b' w l t =
      let again = ap (λ (v : BookYear). write_answer v b) values ∙ read_is_written s are r.end accepted b l in
      (one_answer (λ u. tt) (λ u. tt) (λ u. refl) (t.says ∙ ap done again) refl, t.holds ∙ ap (afterwards b) again)

-- ---- what is written is read

done_value : (a : Answer (List ℕ)) (b b' : List ℕ) → value tt ≡ done a → b' ≡ afterwards b a → a ≡ value b'
done_value (value c) b b' e q = ap value (sym q)
done_value (refused n) b b' e q = absurd (let z : ◌≡◌ {A = ℕ} 0 1 = cc in omega arith)

-- the buffer b' read into a list says the head again, and leaves the terms there, each count 0
pub record ReadAgain (head : Head) (list before after : List TermRecord) (r : Result ReadYear NoYear) : Type 0 where
  pub same : r ≡ Ok (record { end = 149; head = head })
  pub terms : map values_of_term after ≡ map uncounted (map values_of_term (take 24 list)) ++ drop 24 (map values_of_term before)

pub written_then_read : (head : Head) (list : List TermRecord) (b b' : List ℕ) → Told (write_answer (given_year head (take 24 list))) b b' (Ok tt)
    → (before after : List TermRecord) (r : Result ReadYear NoYear) → 24 ≤ length before → ListRead b' before after r → ReadAgain head list before after r
written_then_read head list b b' t before after r h read =
    let v = given_year head (take 24 list) in
    let few : length v.year_terms ≤ 24 = omega (arith, length-map (take 24 list) values_of_term, take_few 24 list) in
    let back = written_is_read v b b' few (done_value (write_answer v b) b b' t.says t.holds) (length before) h in
    record {
      same = sym (year_read_back r read.year) ∙ ap₂ year_read_from back.says back.head;
      terms = read.list ∙ ap (λ (a : Answer (List TermValues)). filled a (map values_of_term before)) back.terms;
    }
