-- A reader's call and a book's check go one year further at a time. Assumes nothing.
use mathlib.Core.Bool.{Bool, true, false, cond}
use mathlib.Core.List.{List, [], ◌∷◌}
use mathlib.Core.Path.{◌≡◌, refl, sym, ◌∙◌, ap}
use Prim.Native.Nat.{ℕ, zero, suc, ◌+◌, ◌≤◌, ◌<◌}
use native.Mathlib.Omega.{arith}
use lib.Dec.{leb}
use lib.ListN.{length, drop, length-drop}
use lib.Seq.{drop-drop}
use borrow.Author.Tests.{leb-true, leb-false, le-leb, lt-leb}
use Rattle.law.specs.Book.{two_at, Checked, sound, faulty, Next, next_year, book_end, stop, year_from, year_size, least_after, and_then, years_from, book_from, step_of, next_at}
use Rattle.book.proofs.BytesLeft.{two_drop}
use Rattle.book.proofs.YearSteps.{SoundYear, year_sound, year_end_lem, year_room}

-- ---- a reader's call

of_year : (t : Bool) (c : Checked) (x e l : ℕ) → cond t book_end (step_of c x) ≡ next_year e l → (t ≡ false) × (c ≡ sound e) × (l ≡ x)
of_year true c x e l h = absurd (let z : ◌≡◌ {A = ℕ} 0 1 = cc in omega arith)
of_year false (sound e') x e l h = (refl, cc, cc)
of_year false (faulty n p) x e l h = absurd (let z : ◌≡◌ {A = ℕ} 0 1 = cc in omega arith)

of_stop : (t : Bool) (c : Checked) (x n p : ℕ) → cond t book_end (step_of c x) ≡ stop n p → (t ≡ false) × (c ≡ faulty n p)
of_stop true c x n p h = absurd (let z : ◌≡◌ {A = ℕ} 0 1 = cc in omega arith)
of_stop false (sound e) x n p h = absurd (let z : ◌≡◌ {A = ℕ} 0 1 = cc in omega arith)
of_stop false (faulty n' p') x n p h = (refl, cc)

of_end : (t : Bool) (c : Checked) (x : ℕ) → cond t book_end (step_of c x) ≡ book_end → t ≡ true
of_end true c x h = refl
of_end false (sound e) x h = absurd (let z : ◌≡◌ {A = ℕ} 0 1 = cc in omega arith)
of_end false (faulty n p) x h = absurd (let z : ◌≡◌ {A = ℕ} 0 1 = cc in omega arith)

module _ (s : List ℕ) (at least : ℕ) where
  pub next_end : length s ≤ at → next_at s at least ≡ book_end
  unfolding next_at
  next_end h = simp (le-leb _ _ h)

  pub next_in : at < length s → {c : Checked} → c ≡ year_from least at (drop at s) → step_of c (least_after (drop at s)) ≡ next_at s at least
  unfolding next_at
  next_in h q = rw (lt-leb (length s) at h, q)

  -- what the check of a year says, of the call there
  pub none_there : length s ≤ at → book_end ≡ next_at s at least
  none_there h = sym (next_end h)

  pub year_there : (e : ℕ) → at < length s → sound e ≡ year_from least at (drop at s) → next_year e (two_at s (at + 1) + 1) ≡ next_at s at least
  year_there e h q = rw (← two_drop s at 1) (next_in h q)

  pub fault_there : (n p : ℕ) → at < length s → faulty n p ≡ year_from least at (drop at s) → stop n p ≡ next_at s at least
  fault_there n p h q = next_in h q

  pub end_reached : next_at s at least ≡ book_end → length s ≤ at
  unfolding next_at
  end_reached q = leb-true (length s) at (of_end (leb (length s) at) (year_from least at (drop at s)) (least_after (drop at s)) q)

  pub year_found : (e l : ℕ) → next_at s at least ≡ next_year e l → (at < length s) × (year_from least at (drop at s) ≡ sound e) × (l ≡ least_after (drop at s))
  unfolding next_at
  year_found e l q =
      let w = of_year (leb (length s) at) (year_from least at (drop at s)) (least_after (drop at s)) e l q in (leb-false (length s) at w.0, w.1, w.2)

  pub fault_found : (n p : ℕ) → next_at s at least ≡ stop n p → (at < length s) × (year_from least at (drop at s) ≡ faulty n p)
  unfolding next_at
  fault_found n p q =
      let w = of_stop (leb (length s) at) (year_from least at (drop at s)) (least_after (drop at s)) n p q in (leb-false (length s) at w.0, w.1)

-- ---- a book

years_fuel : (f g least at : ℕ) (b : List ℕ) → length b ≤ f → length b ≤ g → years_from f least at b ≡ years_from g least at b
unfolding years_from
years_fuel zero zero least at b h k = refl
years_fuel zero (suc g) least at [] h k = refl
years_fuel zero (suc g) least at (x ∷ b) h k = absurd (omega arith)
years_fuel (suc f) zero least at [] h k = refl
years_fuel (suc f) zero least at (x ∷ b) h k = absurd (omega arith)
years_fuel (suc f) (suc g) least at [] h k = refl
years_fuel (suc f) (suc g) least at (x ∷ b) h k =
    let l = length-drop (year_size (x ∷ b)) (x ∷ b) in
    ap (and_then (year_from least at (x ∷ b)))
    (years_fuel f g (least_after (x ∷ b)) (at + year_size (x ∷ b)) (drop (year_size (x ∷ b)) (x ∷ b)) (omega arith) (omega arith))

module _ (least at : ℕ) where
  pub book_none : (b : List ℕ) → length b ≤ 0 → book_from least at b ≡ sound at
  unfolding years_from
  book_none [] h = refl
  book_none (x ∷ b) h = absurd (omega arith)

  pub book_step : (b : List ℕ) → 0 < length b
      → book_from least at b ≡ and_then (year_from least at b) (book_from (least_after b) (at + year_size b) (drop (year_size b) b))
  unfolding years_from
  book_step [] h = absurd (omega arith)
  book_step (x ∷ b) h =
      let l = length-drop (year_size (x ∷ b)) (x ∷ b) in
      ap (and_then (year_from least at (x ∷ b)))
      (years_fuel (length b) (length (drop (year_size (x ∷ b)) (x ∷ b))) (least_after (x ∷ b)) (at + year_size (x ∷ b)) (drop (year_size (x ∷ b)) (x ∷ b)) (omega arith) (omega arith))

  pub book_more : (b : List ℕ) → SoundYear least b → (e : ℕ) → year_from least at b ≡ sound e → book_from least at b ≡ book_from (least_after b) (at + year_size b) (drop (year_size b) b)
  book_more b y e h = let w = y.head in rw h at (book_step b (omega arith))

  pub book_stop : (b : List ℕ) (n p : ℕ) → 0 < length b → year_from least at b ≡ faulty n p → book_from least at b ≡ faulty n p
  book_stop b n p l h = rw h at (book_step b l)

-- a call that handed out a year
pub record Moved (s : List ℕ) (at least e l : ℕ) : Type 0 where
  pub year : SoundYear least (drop at s)
  pub after : l ≡ least_after (drop at s)
  pub to : e ≡ at + year_size (drop at s)
  pub room : e ≤ length s
  pub left : drop (year_size (drop at s)) (drop at s) ≡ drop e s
  pub book : book_from least at (drop at s) ≡ book_from l e (drop e s)

-- the book from a byte on, by what a call there finds
abbrev pub book_after : List ℕ → ℕ → Next → Checked
book_after s at (next_year e l) = book_from l e (drop e s)
book_after s at book_end = sound at
book_after s at (stop n p) = faulty n p

module _ (s : List ℕ) (at least : ℕ) where
  pub moved : (e l : ℕ) → next_at s at least ≡ next_year e l → Moved s at least e l
  moved e l q =
      let n = year_found s at least e l q in
      let y = year_sound least at (drop at s) e n.1 in
      let z = year_end_lem least at (drop at s) e n.1 in
      let d : drop (year_size (drop at s)) (drop at s) ≡ drop e s = drop-drop (year_size (drop at s)) at s ∙ ap (λ (i : ℕ). drop i s) (sym z) in
      record {
        year = y;
        after = n.2;
        to = z;
        room = omega (arith, year_room least (drop at s) y, length-drop at s, n.0);
        left = d;
        book = cc (book_more least at (drop at s) y e n.1, n.2, d, z);
      }

  pub book_next : (n : Next) → n ≡ next_at s at least → book_after s at n ≡ book_from least at (drop at s)
  book_next (next_year e l) q = sym (moved e l (sym q)).book
  book_next book_end q = sym (book_none least at (drop at s) (simp length-drop (omega (arith, end_reached s at least (sym q)))))
  book_next (stop n p) q =
      let f = fault_found s at least n p (sym q) in
      sym (book_stop least at (drop at s) n p (simp length-drop (omega (arith, f.0))) f.1)

  -- the same, in the words of a call's contract
  pub year_within : (e l : ℕ) → next_year e l ≡ next_at s at least → (at < e) × (e ≤ length s)
  year_within e l q = let m = moved e l (sym q) in (omega (arith, m.to), m.room)

  pub book_goes_on : (e l : ℕ) → next_year e l ≡ next_at s at least → book_from l e (drop e s) ≡ book_from least at (drop at s)
  book_goes_on e l q = book_next (next_year e l) q

  pub book_ends : book_end ≡ next_at s at least → sound at ≡ book_from least at (drop at s)
  book_ends q = book_next book_end q

  pub book_stops : (n p : ℕ) → stop n p ≡ next_at s at least → faulty n p ≡ book_from least at (drop at s)
  book_stops n p q = book_next (stop n p) q

-- ---- a sound book

abbrev pub is_sound : Checked → Bool
is_sound (sound e) = true
is_sound (faulty n at) = false

pub end_of : Checked → ℕ
end_of (sound e) = e
end_of (faulty n at) = 0

pub and_sound : (c d : Checked) → is_sound (and_then c d) ≡ true → (c ≡ sound (end_of c)) × (is_sound d ≡ true)
unfolding end_of
and_sound (sound e) d h = (refl, h)
and_sound (faulty n p) d h = absurd (let z : ◌≡◌ {A = ℕ} 0 1 = cc in omega arith)

-- what the code of a call needs, and of a book gone through by calls
pub ruleset calls = (none_there, year_there, fault_there)

pub ruleset book_steps = (year_within, book_goes_on, book_ends, book_stops)
