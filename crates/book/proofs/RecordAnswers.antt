-- A record's answer by facts about its bytes; and what an accepted record tells of them. Assumes nothing.
use mathlib.Core.Bool.{Bool, true, false, cond, not, ◌||◌}
use mathlib.Core.List.{List}
use mathlib.Core.Path.{◌≡◌, refl}
use Prim.Native.Nat.{ℕ, ◌≤◌, ◌<◌}
use native.Mathlib.Omega.{arith}
use borrow.Author.Tests.{le-ltb, eq-eqb, ne_eqb, ltb-false, eqb-true, not-false}
use lib.ListN.{length, get_or}
use lib.Dec.{eqb, ltb}
use Rattle.reasoning.specs.Answer.{Answer, value, refusing}
use Rattle.reasoning.proofs.Answers.{both_no}
use Rattle.law.specs.Book.{Due, a_head, a_term, two_at, is_head, is_term, record_size, head_size, out_of_turn, out_of_range, record_answer}

-- ---- sizes

size_up_to : (p q : Bool) → cond p 5 (cond q 6 0) ≤ 6
size_up_to true q = omega arith
size_up_to false true = omega arith
size_up_to false false = omega arith

pub size_le : (kind : ℕ) → record_size kind ≤ 6
unfolding record_size
size_le kind = size_up_to (is_head kind) (is_term kind)

pub head_size_lem : (kind : ℕ) → kind ≡ 1 → record_size kind ≡ 5
unfolding record_size
head_size_lem kind e = rw e

pub term_size : (kind : ℕ) → kind ≡ 2 → record_size kind ≡ 6
unfolding record_size
term_size kind e = rw e

-- ---- what is accepted

module _ (b : List ℕ) (due : Due) where
  module _ (p : 0 < head_size b) (h : head_size b ≤ length b) where
    pub accept : out_of_turn b due ≡ false → out_of_range b due ≡ false → record_answer b due ≡ value tt
    unfolding record_answer
    accept e f = simp (ne_eqb (head_size b) 0 (λ e. omega arith), le-ltb _ _ h, e, f)

-- ---- a head

module _ (b : List ℕ) (least : ℕ) where
  pub head_turn : get_or b 0 0 ≡ 1 → least ≤ two_at b 1 → out_of_turn b (a_head least) ≡ false
  unfolding out_of_turn
  head_turn e h = simp (eq-eqb _ _ e, le-ltb _ _ h)

  pub head_range : two_at b 1 ≤ 4_000 → get_or b 3 0 ≤ 59 → get_or b 4 0 ≤ 27 → out_of_range b (a_head least) ≡ false
  unfolding out_of_range
  head_range x y z = simp (le-ltb _ _ x, le-ltb _ _ y, le-ltb _ _ z)

-- ---- a term

module _ (b : List ℕ) (k : ℕ) where
  pub term_turn : get_or b 0 0 ≡ 2 → get_or b 1 0 ≡ k → out_of_turn b (a_term k) ≡ false
  unfolding out_of_turn
  term_turn e h = simp (eq-eqb _ _ e, eq-eqb _ _ h)

  pub term_range : two_at b 2 ≤ 374 → two_at b 4 ≤ 1_439 → out_of_range b (a_term k) ≡ false
  unfolding out_of_range
  term_range x y = simp (le-ltb _ _ x, le-ltb _ _ y)

-- ---- an accepted record

split : (p q r s : Bool) → ◌≡◌ {A = Answer Unit} (refusing p 8 (refusing q 7 (refusing r 10 (refusing s 9 (value tt))))) (value tt) → (q ≡ false) × (r ≡ false) × (s ≡ false)
split true q r s h = absurd (let z : ◌≡◌ {A = ℕ} 0 1 = cc in omega arith)
split false true r s h = absurd (let z : ◌≡◌ {A = ℕ} 0 1 = cc in omega arith)
split false false true s h = absurd (let z : ◌≡◌ {A = ℕ} 0 1 = cc in omega arith)
split false false false true h = absurd (let z : ◌≡◌ {A = ℕ} 0 1 = cc in omega arith)
split false false false false h = (refl, refl, refl)

pub record SoundHead (least : ℕ) (b : List ℕ) : Type 0 where
  pub kind : get_or b 0 0 ≡ 1
  pub size : head_size b ≡ 5
  pub room : 5 ≤ length b
  pub turn : least ≤ two_at b 1
  pub number : two_at b 1 ≤ 4_000
  pub name : get_or b 3 0 ≤ 59
  pub mansion : get_or b 4 0 ≤ 27

pub record SoundTerm (k : ℕ) (b : List ℕ) : Type 0 where
  pub kind : get_or b 0 0 ≡ 2
  pub room : 6 ≤ length b
  pub turn : get_or b 1 0 ≡ k
  pub day : two_at b 2 ≤ 374
  pub minute : two_at b 4 ≤ 1_439

module _ (least : ℕ) (b : List ℕ) where
  pub head_sound : record_answer b (a_head least) ≡ value tt → SoundHead least b
  unfolding record_answer out_of_turn out_of_range
  head_sound h =
      let s = split (eqb (head_size b) 0) (ltb (length b) (head_size b)) (out_of_turn b (a_head least)) (out_of_range b (a_head least)) h in
      let t = both_no (not (is_head (get_or b 0 0))) (ltb (two_at b 1) least) s.1 in
      let r = both_no (ltb 4_000 (two_at b 1)) (ltb 59 (get_or b 3 0) || ltb 27 (get_or b 4 0)) s.2 in
      let q = both_no (ltb 59 (get_or b 3 0)) (ltb 27 (get_or b 4 0)) r.1 in
      let k = eqb-true (get_or b 0 0) 1 (not-false (is_head (get_or b 0 0)) t.0) in
      let z = head_size_lem (get_or b 0 0) k in
      record {
        kind = k;
        size = z;
        room = omega (arith, ltb-false (length b) (head_size b) s.0);
        turn = ltb-false (two_at b 1) least t.1;
        number = ltb-false 4_000 (two_at b 1) r.0;
        name = ltb-false 59 (get_or b 3 0) q.0;
        mansion = ltb-false 27 (get_or b 4 0) q.1;
      }

  pub sound_head : SoundHead least b → record_answer b (a_head least) ≡ value tt
  sound_head s =
      accept b (a_head least) (omega arith) (omega arith) (head_turn b least s.kind s.turn)
      (head_range b least s.number s.name s.mansion)

module _ (k : ℕ) (b : List ℕ) where
  pub term_sound : record_answer b (a_term k) ≡ value tt → SoundTerm k b
  unfolding record_answer out_of_turn out_of_range
  term_sound h =
      let s = split (eqb (head_size b) 0) (ltb (length b) (head_size b)) (out_of_turn b (a_term k)) (out_of_range b (a_term k)) h in
      let t = both_no (not (is_term (get_or b 0 0))) (not (eqb (get_or b 1 0) k)) s.1 in
      let r = both_no (ltb 374 (two_at b 2)) (ltb 1_439 (two_at b 4)) s.2 in
      let e = eqb-true (get_or b 0 0) 2 (not-false (is_term (get_or b 0 0)) t.0) in
      record {
        kind = e;
        room = omega (arith, ltb-false (length b) (head_size b) s.0, term_size (get_or b 0 0) e);
        turn = eqb-true (get_or b 1 0) k (not-false (eqb (get_or b 1 0) k) t.1);
        day = ltb-false 374 (two_at b 2) r.0;
        minute = ltb-false 1_439 (two_at b 4) r.1;
      }

  pub sound_term : SoundTerm k b → record_answer b (a_term k) ≡ value tt
  sound_term s =
      let z = term_size (get_or b 0 0) s.kind in
      accept b (a_term k) (omega arith) (omega arith) (term_turn b k s.kind s.turn) (term_range b k s.day s.minute)
