-- A seek goes one year further at a time, and what it finds lies within the book. Assumes nothing.
use mathlib.Core.Bool.{Bool, true, false, cond}
use mathlib.Core.List.{List, [], ◌∷◌}
use mathlib.Core.Path.{◌≡◌, refl, sym, ◌∙◌, ap}
use mathlib.Core.Logic.{◌⊎◌, inl, inr, ⊎_elim}
use Prim.Native.Nat.{ℕ, zero, suc, ◌+◌, ◌≤◌, ◌<◌}
use native.Mathlib.Omega.{arith}
use lib.Dec.{eqb}
use lib.IntN.{ℤ}
use lib.ListN.{length, drop, length-drop}
use mir.Syntax.{w64}
use mir.Val.{SFits}
use mir.Facts.{to_z-of_z}
use borrow.Author.Tests.{eq-eqb, ne_eqb}
use Rattle.reasoning.specs.Answer.{value, refused}
use Rattle.reasoning.proofs.Answers.{passed, stopped}
use Rattle.units.specs.IndexAnswers.{year_index_answer}
use Rattle.units.proofs.IndexAnswers.{year_in}
use Rattle.units.proofs.Machine.{read}
use Rattle.law.specs.Document.{bad_year}
use Rattle.law.specs.Index.{year_index}
use Rattle.law.specs.Book.{next_year, Checked, sound, faulty, book_end, stop, Sought, found, unsound, no_year, two_at, year_from, year_size, least_after, years_from, book_from, book_of, next_at, seek_from, seek_in, if_sound, seek_of}
use Rattle.book.proofs.BookSteps.{year_within, end_reached, Moved, moved, book_next, is_sound, and_sound}
use Rattle.book.proofs.YearSteps.{year_sound, year_room}

seek_fuel : (f g y at : ℕ) (b : List ℕ) → length b ≤ f → length b ≤ g → seek_from f y at b ≡ seek_from g y at b
unfolding seek_from
seek_fuel zero zero y at b h k = refl
seek_fuel zero (suc g) y at [] h k = refl
seek_fuel zero (suc g) y at (x ∷ b) h k = absurd (omega arith)
seek_fuel (suc f) zero y at [] h k = refl
seek_fuel (suc f) zero y at (x ∷ b) h k = absurd (omega arith)
seek_fuel (suc f) (suc g) y at [] h k = refl
seek_fuel (suc f) (suc g) y at (x ∷ b) h k =
    let l = length-drop (year_size (x ∷ b)) (x ∷ b) in
    ap (cond (eqb (two_at (x ∷ b) 1) y) (found at (at + year_size (x ∷ b))))
    (seek_fuel f g y (at + year_size (x ∷ b)) (drop (year_size (x ∷ b)) (x ∷ b)) (omega arith) (omega arith))

module _ (y at : ℕ) where
  pub seek_none : (b : List ℕ) → length b ≤ 0 → seek_in y at b ≡ no_year 12
  unfolding seek_from
  seek_none [] h = refl
  seek_none (x ∷ b) h = absurd (omega arith)

  pub seek_step : (b : List ℕ) → 0 < length b
      → seek_in y at b ≡ cond (eqb (two_at b 1) y) (found at (at + year_size b)) (seek_in y (at + year_size b) (drop (year_size b) b))
  unfolding seek_from
  seek_step [] h = absurd (omega arith)
  seek_step (x ∷ b) h =
      let l = length-drop (year_size (x ∷ b)) (x ∷ b) in
      ap (cond (eqb (two_at (x ∷ b) 1) y) (found at (at + year_size (x ∷ b))))
      (seek_fuel (length b) (length (drop (year_size (x ∷ b)) (x ∷ b))) y (at + year_size (x ∷ b)) (drop (year_size (x ∷ b)) (x ∷ b)) (omega arith) (omega arith))

module _ (y : ℕ) (s : List ℕ) (at least e l : ℕ) (m : Moved s at least e l) where
  pub seek_moved : seek_in y at (drop at s) ≡ cond (eqb (two_at (drop at s) 1) y) (found at e) (seek_in y e (drop e s))
  seek_moved = cc (seek_step y at (drop at s) (simp length-drop (omega (arith, m.to, m.room))), m.left, m.to)

-- what is still to be sought of a book from a byte on
abbrev pub to_seek : ℕ → List ℕ → ℕ → ℕ → Sought
to_seek y s at least = if_sound (book_from least at (drop at s)) (seek_in y at (drop at s))

module _ (y : ℕ) (s : List ℕ) (at least : ℕ) where
  pub seek_ends : book_end ≡ next_at s at least → no_year 12 ≡ to_seek y s at least
  seek_ends q =
      rw (← book_next s at least book_end q, seek_none y at (drop at s) (simp length-drop (omega (arith, end_reached s at least (sym q)))))

  pub seek_stops : (n p : ℕ) → stop n p ≡ next_at s at least → unsound n p ≡ to_seek y s at least
  seek_stops n p q = rw (← book_next s at least (stop n p) q)

  module _ (e l : ℕ) (r : next_year e l ≡ next_at s at least) where
    pub seek_goes_on : (l ≡ y + 1 → ⊥) → to_seek y s e l ≡ to_seek y s at least
    seek_goes_on o =
        let m = moved s at least e l (sym r) in
        rw (m.book, seek_moved y s at least e l m, ne_eqb (two_at (drop at s) 1) y (λ z. o (omega (arith, m.after))))

    hit : l ≡ y + 1 → (c : Checked) → c ≡ book_from l e (drop e s) → if_sound c (found at e) ≡ to_seek y s at least
    hit o c q =
        let m = moved s at least e l (sym r) in
        rw (q, m.book, seek_moved y s at least e l m, eq-eqb (two_at (drop at s) 1) y (omega (arith, m.after)))

    pub seek_finds : (i : ℕ) → l ≡ y + 1 → sound i ≡ book_from l e (drop e s) → found at e ≡ to_seek y s at least
    seek_finds i o q = hit o (sound i) q

    pub seek_stops_after : (n p : ℕ) → l ≡ y + 1 → faulty n p ≡ book_from l e (drop e s) → unsound n p ≡ to_seek y s at least
    seek_stops_after n p o q = hit o (faulty n p) q

-- ---- where a year is found

pub record Within (at : ℕ) (b : List ℕ) (a e : ℕ) : Type 0 where
  pub low : at ≤ a
  pub to : a < e
  pub room : e ≤ at + length b

either : (t : Bool) (p q r : Sought) → cond t p q ≡ r → (p ≡ r) ⊎ (q ≡ r)
either true p q r h = inl h
either false p q r h = inr h

within : (f least at : ℕ) (b : List ℕ) (y a e : ℕ) → is_sound (years_from f least at b) ≡ true → seek_from f y at b ≡ found a e → Within at b a e
unfolding seek_from years_from
within zero least at b y a e o h = absurd (let z : ◌≡◌ {A = ℕ} 0 1 = cc in omega arith)
within (suc f) least at [] y a e o h = absurd (let z : ◌≡◌ {A = ℕ} 0 1 = cc in omega arith)
within (suc f) least at (x ∷ b) y a e o h =
    let s = and_sound (year_from least at (x ∷ b)) (years_from f (least_after (x ∷ b)) (at + year_size (x ∷ b)) (drop (year_size (x ∷ b)) (x ∷ b))) o in
    let room = year_room least (x ∷ b) (year_sound least at (x ∷ b) _ s.0) in
    let l = length-drop (year_size (x ∷ b)) (x ∷ b) in
    ⊎_elim
    (λ w. let p : at ≡ a = cc in let q : at + year_size (x ∷ b) ≡ e = cc in record { low = omega arith; to = omega arith; room = omega arith })
    (λ w.
    let i = within f (least_after (x ∷ b)) (at + year_size (x ∷ b)) (drop (year_size (x ∷ b)) (x ∷ b)) y a e s.1 w in
    record { low = omega arith; to = i.to; room = omega arith })
    (either (eqb (two_at (x ∷ b) 1) y) _ _ _ h)

sound_found : (c : Checked) (answer : Sought) (a e : ℕ) → if_sound c answer ≡ found a e → (is_sound c ≡ true) × (answer ≡ found a e)
sound_found (sound e') answer a e h = (refl, h)
sound_found (faulty n p) answer a e h = absurd (let z : ◌≡◌ {A = ℕ} 0 1 = cc in omega arith)

in_range_found : (t : Bool) (answer : Sought) (a e : ℕ) → cond t (no_year 1) answer ≡ found a e → answer ≡ found a e
in_range_found true answer a e h = absurd (let z : ◌≡◌ {A = ℕ} 0 1 = cc in omega arith)
in_range_found false answer a e h = h

pub found_within : (s : List ℕ) (N : ℤ) (a e : ℕ) → seek_of s N ≡ found a e → Within 0 s a e
unfolding seek_of
found_within s N a e h =
    let i = sound_found (book_of s) (seek_in (year_index N) 0 s) a e (in_range_found (bad_year N) _ a e h) in
    within (length s) 0 0 s (year_index N) a e i.0 i.1

-- ---- the edge of a seek

pub seek_inside : (s : List ℕ) (N : ℤ) → bad_year N ≡ false → seek_of s N ≡ to_seek (year_index N) s 0 0
unfolding seek_of
seek_inside s N h = rw h

-- n reaches `year_index` as the machine reads it
module _ {N : ℤ} (f : SFits w64 N) where
  pub least_sought : (y : ℕ) → value y ≡ year_index_answer (read w64 N) → y ≤ 4_000
  least_sought y e = (year_in N (e ∙ ap year_index_answer (to_z-of_z f))).most

  module _ (s : List ℕ) where
    pub year_outside : (k : ℕ) → refused k ≡ year_index_answer (read w64 N) → no_year k ≡ seek_of s N
    unfolding seek_of year_index_answer
    year_outside k e = let w = stopped (bad_year N) 1 (year_index N) (e ∙ ap year_index_answer (to_z-of_z f)) in rw (w.test, w.is)

    pub year_sought : (y : ℕ) → value y ≡ year_index_answer (read w64 N) → if_sound (book_of s) (seek_in y 0 s) ≡ seek_of s N
    unfolding year_index_answer
    year_sought y e =
        let w = passed (bad_year N) 1 (year_index N) (e ∙ ap year_index_answer (to_z-of_z f)) in
        ap (λ (k : ℕ). to_seek k s 0 0) w.is ∙ sym (seek_inside s N w.test)

-- what the code of a seek needs, and of its edge
pub ruleset seek_steps = (year_within, seek_ends, seek_stops, seek_goes_on, seek_finds, seek_stops_after)

pub ruleset seek_edge = (least_sought, year_outside, year_sought)
