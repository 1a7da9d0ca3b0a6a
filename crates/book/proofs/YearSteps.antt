-- A year's check goes one record further at a time; what an accepted year tells. Assumes nothing.
use mathlib.Core.List.{List, [], ◌∷◌}
use mathlib.Core.Path.{◌≡◌, refl, sym, ◌∙◌, ap, ap₂}
use Prim.Native.Nat.{ℕ, zero, suc, ◌+◌, ◌-◌, ◌*◌, ◌≤◌, ◌<◌}
use native.Mathlib.Omega.{arith}
use native.Mathlib.Numerals.{add-one}
use lib.ListN.{length, get_or, drop, length-drop}
use lib.Seq.{drop-drop}
use Rattle.reasoning.specs.Answer.{Answer, value, refused}
use Rattle.law.specs.Book.{Due, a_head, a_term, Checked, sound, faulty, head_size, year_size, record_answer, or_faulty, record_then, terms_from, year_from}
use Rattle.book.proofs.RecordAnswers.{SoundHead, SoundTerm, term_size, head_sound, sound_head, term_sound, sound_term}

-- ---- one record

pub record_none : (b : List ℕ) (due : Due) (at : ℕ) (next : Checked) → length b ≤ 0 → record_then b due at next ≡ faulty 10 at
record_none [] due at next h = refl
record_none (x ∷ b) due at next h = absurd (omega arith)

pub record_good : (b : List ℕ) (due : Due) (at : ℕ) (next : Checked) → 0 < length b → value tt ≡ record_answer b due → record_then b due at next ≡ next
record_good [] due at next h f = absurd (omega arith)
record_good (x ∷ b) due at next h f = rw (← f)

or_sound : (a : Answer Unit) (at : ℕ) (next : Checked) (e : ℕ) → or_faulty a at next ≡ sound e → (a ≡ value tt) × (next ≡ sound e)
or_sound (value u) at next e h = (refl, h)
or_sound (refused n) at next e h = absurd (let z : ◌≡◌ {A = ℕ} 0 1 = cc in omega arith)

record_sound : (b : List ℕ) (due : Due) (at : ℕ) (next : Checked) (e : ℕ) → record_then b due at next ≡ sound e → (record_answer b due ≡ value tt) × (next ≡ sound e)
record_sound [] due at next e h = absurd (let z : ◌≡◌ {A = ℕ} 0 1 = cc in omega arith)
record_sound (x ∷ b) due at next e h = or_sound (record_answer (x ∷ b) due) at next e h

-- what a record alone says, with x to follow, and the check with anything that follows
record_on : (b : List ℕ) (due : Due) (at x e : ℕ) (next : Checked) → sound e ≡ record_then b due at (sound x) → next ≡ record_then b due at next
record_on [] due at x e next q = absurd (let z : ◌≡◌ {A = ℕ} 0 1 = cc in omega arith)
record_on (y ∷ b) due at x e next q =
    let w = or_sound (record_answer (y ∷ b) due) at (sound x) e (sym q) in sym (record_good (y ∷ b) due at next (omega arith) (sym w.0))

or_bad : (a : Answer Unit) (at x : ℕ) (next : Checked) (n p : ℕ) → faulty n p ≡ or_faulty a at (sound x) → faulty n p ≡ or_faulty a at next
or_bad (value u) at x next n p q = absurd (let z : ◌≡◌ {A = ℕ} 0 1 = cc in omega arith)
or_bad (refused m) at x next n p q = q

record_off : (b : List ℕ) (due : Due) (at x : ℕ) (next : Checked) (n p : ℕ) → faulty n p ≡ record_then b due at (sound x) → faulty n p ≡ record_then b due at next
record_off [] due at x next n p q = q
record_off (y ∷ b) due at x next n p q = or_bad (record_answer (y ∷ b) due) at x next n p q

-- ---- the terms from k on, and the year

terms_suc : (n k at : ℕ) (b : List ℕ) → 0 < n → terms_from n k at b ≡ record_then b (a_term k) at (terms_from (n - 1) (k + 1) (at + 6) (drop 6 b))
unfolding terms_from
terms_suc zero k at b h = absurd (omega arith)
terms_suc (suc n) k at b h = let e : suc n - 1 ≡ n = omega arith in rw (e, add-one)

terms_step : (k at : ℕ) (b : List ℕ) → k < 24 → terms_from (24 - k) k at b ≡ record_then b (a_term k) at (terms_from (24 - (k + 1)) (k + 1) (at + 6) (drop 6 b))
terms_step k at b h = let e : 24 - k - 1 ≡ 24 - (k + 1) = omega arith in rw (← e) (terms_suc (24 - k) k at b (omega arith))

pub year_none : (least at : ℕ) (b : List ℕ) → length b ≤ 0 → year_from least at b ≡ faulty 10 at
unfolding year_from
year_none least at b l = record_none b _ at _ l

-- what the call of a record at a byte says, of the year there and of the terms from term k on
module _ (s : List ℕ) (at : ℕ) where
  abbrev Says : Due → Checked → Type 0
  Says due c = c ≡ record_then (drop at s) due at (sound (at + head_size (drop at s)))

  left : (due : Due) (e : ℕ) → Says due (sound e) → (at + head_size (drop at s) ≡ e) × (drop (head_size (drop at s)) (drop at s) ≡ drop e s)
  left due e q =
      let w = record_sound (drop at s) due at (sound (at + head_size (drop at s))) e (sym q) in
      let z : at + head_size (drop at s) ≡ e = cc in
      (z, drop-drop (head_size (drop at s)) at s ∙ ap (λ (i : ℕ). drop i s) z)

  module _ (least : ℕ) where
    pub head_bad : (n p : ℕ) → Says (a_head least) (faulty n p) → faulty n p ≡ year_from least at (drop at s)
    unfolding year_from
    head_bad n p q = record_off (drop at s) (a_head least) at _ _ n p q

    pub head_good : (e : ℕ) → Says (a_head least) (sound e) → terms_from 24 0 e (drop e s) ≡ year_from least at (drop at s)
    unfolding year_from
    head_good e q =
        let l = left (a_head least) e q in
        ap₂ (terms_from 24 0) (sym l.0) (sym l.1) ∙ record_on (drop at s) (a_head least) at _ e _ q

  module _ (k : ℕ) (h : k < 24) where
    pub term_bad : (n p : ℕ) → Says (a_term k) (faulty n p) → faulty n p ≡ terms_from (24 - k) k at (drop at s)
    term_bad n p q = record_off (drop at s) (a_term k) at _ _ n p q ∙ sym (terms_step k at (drop at s) h)

    pub term_good : (e : ℕ) → Says (a_term k) (sound e) → terms_from (24 - (k + 1)) (k + 1) e (drop e s) ≡ terms_from (24 - k) k at (drop at s)
    term_good e q =
        let l = left (a_term k) e q in
        let w = record_sound (drop at s) (a_term k) at (sound (at + head_size (drop at s))) e (sym q) in
        let kind = (term_sound k (drop at s) w.0).kind in
        let six : head_size (drop at s) ≡ 6 = term_size (get_or (drop at s) 0 0) kind in
        let next = terms_from (24 - (k + 1)) (k + 1) in
        ap₂ next (sym l.0) (sym l.1)
        ∙ (ap (λ (z : ℕ). next (at + z) (drop z (drop at s))) six ∙ (record_on (drop at s) (a_term k) at _ e _ q ∙ sym (terms_step k at (drop at s) h)))

pub terms_end : (k at : ℕ) (b : List ℕ) → 24 ≤ k → sound at ≡ terms_from (24 - k) k at b
unfolding terms_from
terms_end k at b h = let e : 24 - k ≡ 0 = omega arith in rw e refl

-- ---- accepted, as facts with no byte and no number

unfoldable pub SoundTerms : ℕ → ℕ → List ℕ → Type 0
SoundTerms zero k b = Unit
SoundTerms (suc n) k b = SoundTerm k b × SoundTerms n (suc k) (drop 6 b)

pub terms_sound : (n k at : ℕ) (b : List ℕ) (e : ℕ) → terms_from n k at b ≡ sound e → SoundTerms n k b
unfolding terms_from SoundTerms
terms_sound zero k at b e h = tt
terms_sound (suc n) k at b e h =
    let i = record_sound b (a_term k) at (terms_from n (suc k) (at + 6) (drop 6 b)) e h in
    (term_sound k b i.0, terms_sound n (suc k) (at + 6) (drop 6 b) e i.1)

pub sound_terms : (n k at : ℕ) (b : List ℕ) → SoundTerms n k b → terms_from n k at b ≡ sound (at + n * 6)
unfolding terms_from SoundTerms
sound_terms zero k at b g = let e : at + 0 * 6 ≡ at = omega arith in rw e
sound_terms (suc n) k at b g =
    let e : at + suc n * 6 ≡ at + 6 + n * 6 = omega arith in
    let s = g.0 in
    rw e (record_good b (a_term k) at _ (omega arith) (sym (sound_term k b s)) ∙ sound_terms n (suc k) (at + 6) (drop 6 b) g.1)

pub terms_room : (n k : ℕ) (b : List ℕ) → SoundTerms n k b → n * 6 ≤ length b
unfolding SoundTerms
terms_room zero k b g = omega arith
terms_room (suc n) k b g = let s = g.0 in omega (arith, terms_room n (suc k) (drop 6 b) g.1, length-drop 6 b)

pub record SoundYear (least : ℕ) (b : List ℕ) : Type 0 where
  pub head : SoundHead least b
  pub terms : SoundTerms 24 0 (drop (head_size b) b)

module _ (least at : ℕ) (b : List ℕ) where
  pub sound_year : SoundYear least b → year_from least at b ≡ sound (at + year_size b)
  unfolding year_from
  sound_year g =
      let s = g.head in
      let z = head_size b in
      let e : at + z + 24 * 6 ≡ at + (z + 144) = omega arith in
      record_good b (a_head least) at _ (omega arith) (sym (sound_head least b s)) ∙ sound_terms 24 0 (at + z) (drop z b) g.terms ∙ ap sound e

  pub year_sound : (e : ℕ) → year_from least at b ≡ sound e → SoundYear least b
  unfolding year_from
  year_sound e h =
      let i = record_sound b (a_head least) at (terms_from 24 0 (at + head_size b) (drop (head_size b) b)) e h in
      record { head = head_sound least b i.0; terms = terms_sound 24 0 (at + head_size b) (drop (head_size b) b) e i.1 }

  pub year_end_lem : (e : ℕ) → year_from least at b ≡ sound e → e ≡ at + year_size b
  year_end_lem e h = let q : sound e ≡ sound (at + year_size b) = sym h ∙ sound_year (year_sound e h) in cc

pub year_room : (least : ℕ) (b : List ℕ) → SoundYear least b → year_size b ≤ length b
year_room least b g = let s = g.head in omega (arith, terms_room 24 0 (drop (head_size b) b) g.terms, length-drop (head_size b) b)

-- what the code of a year needs
pub ruleset year_steps = (head_bad, head_good, term_bad, term_good, terms_end)
