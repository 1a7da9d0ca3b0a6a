-- What the code knows of a year's part at each turn: the head decides, or the terms that are left. Assumes nothing.
use mathlib.Core.Bool.{true, false}
use mathlib.Core.List.{List, map}
use mathlib.Core.Path.{◌≡◌, refl, sym, ◌∙◌, ap}
use Prim.Native.Nat.{ℕ, ◌+◌, ◌-◌, ◌*◌, ◌≤◌, ◌<◌}
use native.Mathlib.Numerals.{add-one}
use native.Mathlib.Omega.{arith}
use borrow.Author.Tests.{eq-eqb, ne_eqb}
use lib.IntN.{ℤ, pos, ◌-ℤ◌}
use lib.ListN.{length, get_or, take, drop, length-map, length-drop, drop_of_length-le}
use lib.Seq.{take_all, drop-drop}
use mir.Syntax.{w64}
use mir.Val.{to_z}
use Rattle.std.specs.Prelude.{Ok, Err}
use Rattle.reasoning.specs.Answer.{value}
use Rattle.reasoning.specs.InOrder.{in_order}
use Rattle.reasoning.proofs.Answers.{same_value, never}
use Rattle.reasoning.proofs.InOrder.{in_order_length}
use Rattle.reasoning.proofs.Whole.{is_pos, is_minus, same}
use Rattle.law.specs.Document.{epicycles, bad_year, day_name, mansion, YearValues, term_values, terms_answer}
use Rattle.law.specs.Book.{two_at, any_bad, worked_year}
use Rattle.motion.proofs.TermAnswers.{none_off}
use Rattle.units.specs.declared.refusal.Refusal.{Refusal}
use Rattle.units.proofs.Machine.{read, Lowered, lowered}
use Rattle.book.proofs.RecordAnswers.{head_size_lem}
use Rattle.sun.specs.declared.term.TermRecord.{TermRecord}
use Rattle.sun.specs.declared.worked_year.WorkedYear.{WorkedYear}
use Rattle.sun.specs.Said.{values_of_term}
use Rattle.sun.specs.Worked.{zero_record, WorkedOut}
use Rattle.values.proofs.GivenTerms.{term_next}
use Rattle.values.proofs.WrittenIsRead.{ranges, worked_year_fits}
use Rattle.verify.specs.Verify.{Verdict, ours, not_ours, head_differs, term_differs, terms_verdict, year_beside, number_in, year_verdict}

-- a year in range is never refused: what is worked out is ours
pub record Worked (e : ℕ) (N : ℤ) (r : WorkedYear) : Type 0 where
  pub name : r.year.day_name ≡ day_name N
  pub duty : r.year.mansion ≡ mansion N
  pub terms : map values_of_term r.terms ≡ in_order (term_values e N) 24
  pub all : length r.terms ≡ 24
  pub good : any_bad (map values_of_term r.terms) ≡ false

module _ (e : ℕ) (o : e ≤ epicycles) (N : ℤ) (h : bad_year N ≡ false) where
  in_range_known : terms_answer e N ≡ value (in_order (term_values e N) 24)
  unfolding terms_answer
  in_range_known = rw (h, none_off e o N 24) refl

  pub worked : (r : WorkedYear) → WorkedOut N (terms_answer e N) (Ok r) → Worked e N r
  unfolding worked_year
  worked r w =
      let terms : map values_of_term r.terms ≡ in_order (term_values e N) 24 = same_value (w.says ∙ in_range_known) in
      record {
        name = ap (λ (v : YearValues). v.solstice_day) w.values;
        duty = ap (λ (v : YearValues). v.duty_mansion) w.values;
        terms = terms;
        all = sym (length-map r.terms values_of_term) ∙ (ap length terms ∙ in_order_length (term_values e N) 24);
        good = ap any_bad terms ∙ (ranges (worked_year e N) (worked_year_fits e o N h).rest).terms;
      }

  pub not_refused : (r : Refusal) → WorkedOut N (terms_answer e N) (Err r) → ⊥
  not_refused r w = never (w.says ∙ in_range_known)

-- x counts N from -2,000 on: N as it reaches a callee
module _ (x : ℕ) (small : x < 65_536) where
  pub down : Lowered w64 2_000 x
  down = lowered w64 2_000 x (omega arith) (omega arith)

  pub number_there : (b : List ℕ) → x ≡ two_at b 1 → read w64 (to_z w64 x -ℤ pos 2_000) ≡ number_in b
  number_there b q = same down.is (is_minus (is_pos (two_at b 1)) (is_pos 2_000)) (omega arith)

-- ---- the head

module _ (e : ℕ) (b : List ℕ) (at : ℕ) (r : WorkedYear) (w : Worked e (number_in b) r) where
  pub other_name : (x : ℕ) → x ≡ get_or b 3 0 → (x ≡ r.year.day_name → ⊥) → not_ours at ≡ year_verdict e at b
  unfolding year_beside head_differs worked_year
  other_name x q n = rw (ne_eqb (get_or b 3 0) (day_name (number_in b)) (λ p. n (q ∙ (p ∙ sym w.name)))) refl

  module _ (x : ℕ) (q : x ≡ get_or b 3 0) (p : x ≡ r.year.day_name) where
    pub other_mansion : (y : ℕ) → y ≡ get_or b 4 0 → (y ≡ r.year.mansion → ⊥) → not_ours at ≡ year_verdict e at b
    unfolding year_beside head_differs worked_year
    other_mansion y d n =
        rw (eq-eqb (get_or b 3 0) (day_name (number_in b)) (sym q ∙ (p ∙ w.name)), ne_eqb (get_or b 4 0) (mansion (number_in b)) (λ m. n (d ∙ (m ∙ sym w.duty)))) refl

    pub same_head : (y : ℕ) → y ≡ get_or b 4 0 → y ≡ r.year.mansion → get_or b 0 0 ≡ 1
        → terms_verdict (at + 5) (drop 5 b) (map values_of_term r.terms) ≡ year_verdict e at b
    unfolding year_beside head_differs worked_year
    same_head y d m kind =
        rw (eq-eqb (get_or b 3 0) (day_name (number_in b)) (sym q ∙ (p ∙ w.name)), eq-eqb (get_or b 4 0) (mansion (number_in b)) (sym d ∙ (m ∙ w.duty)), head_size_lem (get_or b 0 0) kind, w.terms) refl

-- ---- the terms from k on

-- what is left of a list from a place on, as a slice of it has it
abbrev pub bytes_on : List ℕ → ℕ → List ℕ
bytes_on b i = take (length b - i) (drop i b)

all_on : (b : List ℕ) (i : ℕ) → bytes_on b i ≡ drop i b
all_on b i = take_all (length b - i) (drop i b) (omega (arith, length-drop i b))

abbrev pub terms_left : ℕ → List ℕ → List TermRecord → ℕ → Verdict
terms_left at b ts k = terms_verdict (at + (5 + k * 6)) (drop (5 + k * 6) b) (drop k (map values_of_term ts))

module _ (at : ℕ) (b : List ℕ) (ts : List TermRecord) where
  pub all_terms : terms_verdict (at + 5) (drop 5 b) (map values_of_term ts) ≡ terms_left at b ts 0
  all_terms = let z : at + (5 + 0 * 6) ≡ at + 5 = omega arith in rw z refl

  pub no_terms : (k : ℕ) → length ts ≤ k → ours ≡ terms_left at b ts k
  unfolding terms_verdict
  no_terms k h = let l : length (map values_of_term ts) ≤ k = omega (arith, length-map ts values_of_term) in rw (drop_of_length-le (map values_of_term ts) l) refl

  module _ (k : ℕ) (h : k < length ts) where
    pub other_term : true ≡ term_differs (bytes_on b (5 + k * 6)) (values_of_term (get_or ts k zero_record)) → not_ours (at + (5 + k * 6)) ≡ terms_left at b ts k
    unfolding terms_verdict
    other_term q =
        let p : true ≡ term_differs (drop (5 + k * 6) b) (values_of_term (get_or ts k zero_record)) = rw (all_on b (5 + k * 6)) at q in
        rw (term_next ts k h, ← p) refl

    pub same_term : false ≡ term_differs (bytes_on b (5 + k * 6)) (values_of_term (get_or ts k zero_record)) → terms_left at b ts (k + 1) ≡ terms_left at b ts k
    unfolding terms_verdict
    same_term q =
        let z : at + (5 + (k + 1) * 6) ≡ at + (5 + k * 6) + 6 = omega arith in
        let d : 5 + (k + 1) * 6 ≡ 5 + k * 6 + 6 = omega arith in
        let p : false ≡ term_differs (drop (5 + k * 6) b) (values_of_term (get_or ts k zero_record)) = rw (all_on b (5 + k * 6)) at q in
        rw (term_next ts k h, ← p, z, d, ← drop-drop 6 (5 + k * 6) b, add-one k) refl
