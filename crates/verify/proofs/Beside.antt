-- A written year beside another of the same N: what is told is that they are the same, and then their bytes are, or the byte of the first
-- record in which they differ. Assumes nothing.
use mathlib.Core.Bool.{Bool, true, false, not, ◌||◌}
use mathlib.Core.List.{List, [], ◌∷◌}
use mathlib.Core.Logic.{◌⊎◌, inl, inr}
use mathlib.Core.Path.{◌≡◌, refl, sym, subst, ◌∙◌, ap}
use Prim.Native.Nat.{ℕ, suc, ◌+◌, ◌*◌, ◌/◌, ◌%◌, ◌<◌}
use native.Mathlib.Omega.{arith}
use borrow.Author.Tests.{eqb-true, not-false, eq-eqb}
use lib.Dec.{eqb}
use lib.ListN.{length, get_or}
use Rattle.reasoning.proofs.Answers.{both_no}
use Rattle.law.specs.Document.{TermValues}
use Rattle.law.specs.Index.{year_index, day_index}
use Rattle.law.specs.Book.{BookYear, record_size, two_of, terms_of, bytes_of, bad_term_values, any_bad}
use Rattle.values.proofs.WrittenIsRead.{two_back, TermFits, term_fits, ranges, Fits}
use Rattle.verify.specs.Verify.{Verdict, ours, not_ours, refused_at, head_differs, term_differs, not_ours_if, terms_verdict, year_beside}
use Rattle.verify.proofs.FirstRecord.{TermAt, FirstAt, later}

-- what is known by a verdict that is no refusal: that all is the same, or where the first record that differs starts
abbrev pub Known : Type 0 → (ℕ → Type 0) → Verdict → Type 0
Known same first ours = same
Known same first (not_ours byte) = first byte
Known same first (refused_at number byte) = ⊥

pub known_by : {same same' : Type 0} {first first' : ℕ → Type 0} → (same → same') → ((byte : ℕ) → first byte → first' byte) → (v : Verdict) → Known same first v → Known same' first' v
known_by f g ours k = f k
known_by f g (not_ours byte) k = g byte k
known_by f g (refused_at number byte) k = absurd k

-- a record's test decides, or what follows
by_test : (same : Type 0) (first : ℕ → Type 0) (t : Bool) (at : ℕ) (next : Verdict) → (t ≡ true → first at) → (t ≡ false → Known same first next)
    → Known same first (not_ours_if t at next)
by_test same first true at next f g = f refl
by_test same first false at next f g = g refl

-- of two values neither differs, or one does
same_both : (a b c d : ℕ) → (not (eqb a b) || not (eqb c d)) ≡ false → (a ≡ b) × (c ≡ d)
same_both a b c d h =
    let p = both_no (not (eqb a b)) (not (eqb c d)) h in
    (eqb-true a b (not-false (eqb a b) p.0), eqb-true c d (not-false (eqb c d) p.1))

not_both : (a b c d : ℕ) → (not (eqb a b) || not (eqb c d)) ≡ true → a ≡ b → c ≡ d → ⊥
not_both a b c d h p q = absurd (let z : ◌≡◌ {A = Bool} false true = rw (eq-eqb a b p, eq-eqb c d q) at h in let n : ◌≡◌ {A = ℕ} 0 1 = cc in omega arith)

-- ---- terms

two_same : (x y : ℕ) → x < 65_536 → y < 65_536 → x / 256 % 256 ≡ y / 256 % 256 → x % 256 ≡ y % 256 → x ≡ y
two_same x y h k p q = omega arith

abbrev SameTerms : ℕ → List TermValues → List TermValues → Type 0
SameTerms k ts us = (q : List ℕ) → terms_of k ts q ≡ terms_of k us q

-- term k + term of these, the first of which starts at a byte
record OtherTerm (k from : ℕ) (ts us : List TermValues) (at : ℕ) : Type 0 where
  term : ℕ
  below : term < length us
  place : at ≡ from + term * 6
  first : (q q' : List ℕ) → FirstAt (terms_of k ts q) (terms_of k us q') (term * 6)

module _ (k : ℕ) (t u : TermValues) (ts us : List TermValues) (f : TermFits t) (g : TermFits u) where
  other_first : (r : List ℕ) → term_differs (terms_of k (t ∷ ts) r) u ≡ true → (q q' : List ℕ) → FirstAt (terms_of k (t ∷ ts) q) (terms_of k (u ∷ us) q') 0
  unfolding term_differs terms_of record_size
  other_first r h q q' =
      let d = day_index t.day_of_term in
      let d' = day_index u.day_of_term in
      let m = t.minute_of_term in
      let m' = u.minute_of_term in
      record {
        before = refl;
        other = λ e.
            let byte : (i : ℕ) → get_or (2 ∷ k ∷ two_of d (two_of m [])) i 0 ≡ get_or (2 ∷ k ∷ two_of d' (two_of m' [])) i 0 = λ (i : ℕ). ap (λ (l : List ℕ). get_or l i 0) e in
            let day : d ≡ d' = two_same d d' (omega (arith, f.count)) (omega (arith, g.count)) (byte 2) (byte 3) in
            let minute : m ≡ m' = two_same m m' (omega (arith, f.minute)) (omega (arith, g.minute)) (byte 4) (byte 5) in
            not_both (d / 256 % 256 * 256 + d % 256) d' (m / 256 % 256 * 256 + m % 256) m' h (two_back d (omega (arith, f.count)) ∙ day) (two_back m (omega (arith, f.minute)) ∙ minute);
      }

  same_values : (r : List ℕ) → term_differs (terms_of k (t ∷ ts) r) u ≡ false → (day_index t.day_of_term ≡ day_index u.day_of_term) × (t.minute_of_term ≡ u.minute_of_term)
  unfolding term_differs terms_of
  same_values r h =
      let d = day_index t.day_of_term in
      let m = t.minute_of_term in
      let p = same_both (d / 256 % 256 * 256 + d % 256) (day_index u.day_of_term) (m / 256 % 256 * 256 + m % 256) u.minute_of_term h in
      (sym (two_back d (omega (arith, f.count))) ∙ p.0, sym (two_back m (omega (arith, f.minute))) ∙ p.1)

  module _ (day : day_index t.day_of_term ≡ day_index u.day_of_term) (minute : t.minute_of_term ≡ u.minute_of_term) where
    one_more : SameTerms (suc k) ts us → SameTerms k (t ∷ ts) (u ∷ us)
    unfolding terms_of
    one_more s q = rw (day, minute, s q)

    one_on : (from at : ℕ) → OtherTerm (suc k) (from + 6) ts us at → OtherTerm k from (t ∷ ts) (u ∷ us) at
    unfolding terms_of
    one_on from at o =
        let d = day_index u.day_of_term in
        let m = u.minute_of_term in
        let n : 6 + o.term * 6 ≡ suc o.term * 6 = omega arith in
        record {
          term = suc o.term;
          below = omega (arith, o.below);
          place = omega (arith, o.place);
          first = λ (q q' : List ℕ).
              rw (day, minute)
              (subst (λ (i : ℕ). FirstAt (2 ∷ k ∷ two_of d (two_of m (terms_of (suc k) ts q))) (2 ∷ k ∷ two_of d (two_of m (terms_of (suc k) us q'))) i) n
              (later (2 ∷ k ∷ two_of d (two_of m [])) (terms_of (suc k) ts q) (terms_of (suc k) us q') (o.term * 6) (o.first q q')));
        }

terms_beside : (ts us : List TermValues) (k from : ℕ) (r : List ℕ) → any_bad ts ≡ false → any_bad us ≡ false → length ts ≡ length us
    → Known (SameTerms k ts us) (OtherTerm k from ts us) (terms_verdict from (terms_of k ts r) us)
unfolding terms_verdict terms_of any_bad
terms_beside [] [] k from r a b l = λ (q : List ℕ). refl
terms_beside [] (u ∷ us) k from r a b l = absurd (omega arith)
terms_beside (t ∷ ts) [] k from r a b l = absurd (omega arith)
terms_beside (t ∷ ts) (u ∷ us) k from r a b l =
    let p = both_no (bad_term_values t) (any_bad ts) a in
    let o = both_no (bad_term_values u) (any_bad us) b in
    let f = term_fits t p.0 in
    let g = term_fits u o.0 in
    let i = terms_beside ts us (suc k) (from + 6) r p.1 o.1 (omega arith) in
    by_test (SameTerms k (t ∷ ts) (u ∷ us)) (OtherTerm k from (t ∷ ts) (u ∷ us)) (term_differs (terms_of k (t ∷ ts) r) u) from (terms_verdict (from + 6) (terms_of (suc k) ts r) us)
    (λ h. record { term = 0; below = omega arith; place = omega arith; first = other_first k t u ts us f g r h })
    (λ h.
    let s = same_values k t u ts us f g r h in
    known_by (one_more k t u ts us f g s.0 s.1) (one_on k t u ts us f g s.0 s.1 from) (terms_verdict (from + 6) (terms_of (suc k) ts r) us) i)

-- ---- a year

abbrev pub SameYear : BookYear → BookYear → Type 0
SameYear v u = (q : List ℕ) → bytes_of v q ≡ bytes_of u q

-- the head or a term, so many bytes after the year's start
pub record OtherRecord (from : ℕ) (v u : BookYear) (at : ℕ) : Type 0 where
  pub gone : ℕ
  pub place : at ≡ from + gone
  pub which : (at ≡ from) ⊎ TermAt from (bytes_of v []) at
  pub first : (q q' : List ℕ) → FirstAt (bytes_of v q) (bytes_of u q') gone

module _ (v u : BookYear) (f : Fits v) (g : Fits u) (n : v.year_n ≡ u.year_n) where
  other_head : (r : List ℕ) → head_differs (bytes_of v r) u ≡ true → (q q' : List ℕ) → FirstAt (bytes_of v q) (bytes_of u q') 0
  unfolding head_differs bytes_of record_size
  other_head r h q q' =
      record {
        before = refl;
        other = λ e. not_both v.year_name u.year_name v.year_mansion u.year_mansion h (ap (λ (l : List ℕ). get_or l 3 0) e) (ap (λ (l : List ℕ). get_or l 4 0) e);
      }

  same_head : (r : List ℕ) → head_differs (bytes_of v r) u ≡ false → (v.year_name ≡ u.year_name) × (v.year_mansion ≡ u.year_mansion)
  unfolding head_differs bytes_of
  same_head r h = same_both v.year_name u.year_name v.year_mansion u.year_mansion h

  module _ (name : v.year_name ≡ u.year_name) (mansion : v.year_mansion ≡ u.year_mansion) where
    same_year : SameTerms 0 v.year_terms u.year_terms → SameYear v u
    unfolding bytes_of
    same_year s q = rw (n, name, mansion, s q)

    other_term : (from at : ℕ) → OtherTerm 0 (from + 5) v.year_terms u.year_terms at → OtherRecord from v u at
    unfolding bytes_of record_size
    other_term from at o =
        let y = year_index u.year_n in
        record {
          gone = 5 + o.term * 6;
          place = omega (arith, o.place);
          which = inr (record { term = o.term; below = omega (arith, o.below, g.all); place = o.place });
          first = λ (q q' : List ℕ).
              rw (n, name, mansion)
              (later (1 ∷ two_of y (u.year_name ∷ u.year_mansion ∷ [])) (terms_of 0 v.year_terms q) (terms_of 0 u.year_terms q') (o.term * 6) (o.first q q'));
        }

  pub year_beside_lem : (from : ℕ) (r : List ℕ) → Known (SameYear v u) (OtherRecord from v u) (year_beside from (bytes_of v r) u)
  unfolding year_beside bytes_of record_size
  year_beside_lem from r =
      let i = terms_beside v.year_terms u.year_terms 0 (from + 5) r (ranges v f.rest).terms (ranges u g.rest).terms (f.all ∙ sym g.all) in
      by_test (SameYear v u) (OtherRecord from v u) (head_differs (bytes_of v r) u) from (terms_verdict (from + 5) (terms_of 0 v.year_terms r) u.year_terms)
      (λ h. record { gone = 0; place = omega arith; which = inl refl; first = other_head r h })
      (λ h.
      let s = same_head r h in
      known_by (same_year s.0 s.1) (other_term s.0 s.1 from) (terms_verdict (from + 5) (terms_of 0 v.year_terms r) u.year_terms) i)
