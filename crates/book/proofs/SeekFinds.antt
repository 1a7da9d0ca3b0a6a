-- In a sound book, seeking a year in range finds it exactly when one of the parts that a reader hands out has that N, hands out just
-- that part, 149 bytes, and is refused 12 else. What is found of any bytes lies within them. Assumes nothing.
use mathlib.Core.Bool.{Bool, true, false, cond, ◌||◌}
use mathlib.Core.List.{List, [], ◌∷◌}
use mathlib.Core.Path.{◌≡◌, refl, ◌∙◌, ap, sym}
use Prim.Native.Nat.{ℕ, zero, suc, ◌+◌, ◌-◌, ◌≤◌, ◌<◌}
use native.Mathlib.Decide.{dec_lt}
use native.Mathlib.Omega.{arith}
use lib.Dec.{eqb}
use lib.IntN.{ℤ}
use lib.ListN.{length, get_or, take, drop, length-drop}
use lib.Seq.{get_or-take, length-take-le}
use Rattle.law.specs.Document.{bad_year}
use Rattle.law.specs.Index.{year_index}
use Rattle.law.specs.Book.{Checked, sound, faulty, Sought, found, unsound, no_year, two_at, book_from, book_of, Next, next_year, book_end, stop, next_at, hand_out, parts_from, parts_of, year_size, seek_from, seek_in, if_sound, seek_of, part_of}
use Rattle.book.proofs.BookSteps.{moved, next_end, is_sound}
use Rattle.book.proofs.seek.SeekSteps.{seek_none, seek_moved, seek_inside, found_within}
use Rattle.book.proofs.WholeBooks.{handed, by_dec}

-- the first part whose N + 2,000 is y, empty where there is none
abbrev pub year_among : ℕ → List (List ℕ) → List ℕ
year_among y [] = []
year_among y (p ∷ ps) = cond (eqb (two_at p 1) y) p (year_among y ps)

abbrev pub is_among : ℕ → List (List ℕ) → Bool
is_among y [] = false
is_among y (p ∷ ps) = eqb (two_at p 1) y || is_among y ps

abbrev pub is_found : Sought → Bool
is_found (found a e) = true
is_found (unsound n at) = false
is_found (no_year n) = false

part_either : (s : List ℕ) (t : Bool) (x y : Sought) → part_of s (cond t x y) ≡ cond t (part_of s x) (part_of s y)
part_either s true x y = refl
part_either s false x y = refl

found_either : (t : Bool) (a e : ℕ) (y : Sought) → is_found (cond t (found a e) y) ≡ (t || is_found y)
found_either true a e y = refl
found_either false a e y = refl

-- a year's part has the N of what is left
part_number : (b : List ℕ) (z : ℕ) → 3 ≤ z → two_at (take z b) 1 ≡ two_at b 1
part_number b z h =
    let p : get_or (take z b) 1 0 ≡ get_or b 1 0 = get_or-take z b 1 0 (omega arith) in
    let q : get_or (take z b) 2 0 ≡ get_or b 2 0 = get_or-take z b 2 0 (omega arith) in
    rw (p, q)

module _ (y : ℕ) (s : List ℕ) where
  abbrev Agrees : ℕ → ℕ → ℕ → Type 0
  Agrees calls at least =
      (part_of s (seek_in y at (drop at s)) ≡ year_among y (parts_from calls s at least)) × (is_found (seek_in y at (drop at s)) ≡ is_among y (parts_from calls s at least))

  nothing_left : (calls at least : ℕ) → length s ≤ at → Agrees calls at least
  unfolding parts_from
  nothing_left zero at least h = let l : length (drop at s) ≤ 0 = simp length-drop (omega arith) in rw (seek_none y at (drop at s) l) (refl, refl)
  nothing_left (suc calls) at least h =
      let l : length (drop at s) ≤ 0 = simp length-drop (omega arith) in
      rw (seek_none y at (drop at s) l, next_end s at least h) (refl, refl)

  agrees : (calls at least : ℕ) → length s ≤ at + calls → is_sound (book_from least at (drop at s)) ≡ true → Agrees calls at least
  unfolding parts_from
  agrees zero at least h o = nothing_left zero at least (omega arith)
  agrees (suc calls) at least h o =
      by_dec (dec_lt at (length s))
      (λ w.
      let m = handed s at least w o in
      let i = agrees calls m.end m.after (omega (arith, m.went)) m.sound_on in
      let k : two_at (take (m.end - at) (drop at s)) 1 ≡ two_at (drop at s) 1 = part_number (drop at s) (m.end - at) (omega (arith, m.went)) in
      let q = seek_moved y s at least m.end m.after m.went in
      rw (m.next, k, q) (
        part_either s (eqb (two_at (drop at s) 1) y) (found at m.end) (seek_in y m.end (drop m.end s)) ∙ ap (cond (eqb (two_at (drop at s) 1) y) (take (m.end - at) (drop at s))) i.0,
        found_either (eqb (two_at (drop at s) 1) y) at m.end (seek_in y m.end (drop m.end s)) ∙ ap (λ (t : Bool). eqb (two_at (drop at s) 1) y || t) i.1,
      ))
      (λ w. nothing_left (suc calls) at least (omega arith))

-- what is not found is refused 12
either_12 : (t : Bool) (a e : ℕ) (y : Sought) → (is_found y ≡ false → y ≡ no_year 12) → is_found (cond t (found a e) y) ≡ false
    → cond t (found a e) y ≡ no_year 12
either_12 true a e y f h = absurd (let z : ◌≡◌ {A = ℕ} 0 1 = cc in omega arith)
either_12 false a e y f h = f h

pub found_or_12 : (most y at : ℕ) (b : List ℕ) → is_found (seek_from most y at b) ≡ false → seek_from most y at b ≡ no_year 12
unfolding seek_from
found_or_12 zero y at b h = refl
found_or_12 (suc most) y at [] h = refl
found_or_12 (suc most) y at (x ∷ b) h =
    let z = year_size (x ∷ b) in
    either_12 (eqb (two_at (x ∷ b) 1) y) at (at + z) (seek_from most y (at + z) (drop z (x ∷ b))) (found_or_12 most y (at + z) (drop z (x ∷ b))) h

-- lists of 149 bytes
abbrev Each149 : List (List ℕ) → Type 0
Each149 [] = Unit
Each149 (p ∷ ps) = (length p ≡ 149) × Each149 ps

handed_149 : (s : List ℕ) (at least : ℕ) (n : Next) (more : ℕ → ℕ → List (List ℕ)) → next_at s at least ≡ n → ((e l : ℕ) → Each149 (more e l))
    → Each149 (hand_out n s at more)
handed_149 s at least (next_year e l) more q on =
    let m = moved s at least e l q in
    let t = length-take-le (e - at) (drop at s) (simp length-drop (omega (arith, m.to, m.room))) in (omega (arith, m.to, m.year.head.size), on e l)
handed_149 s at least book_end more q on = tt
handed_149 s at least (stop n p) more q on = tt

pub parts_149 : (calls : ℕ) (s : List ℕ) (at least : ℕ) → Each149 (parts_from calls s at least)
unfolding parts_from
parts_149 zero s at least = tt
parts_149 (suc calls) s at least = handed_149 s at least (next_at s at least) (parts_from calls s) refl (λ e l. parts_149 calls s e l)

-- the part that is found is one of 149 bytes
either_149 : (t b : Bool) (p q : List ℕ) → length p ≡ 149 → (b ≡ true → length q ≡ 149) → (t || b) ≡ true → length (cond t p q) ≡ 149
either_149 true b p q h f k = h
either_149 false b p q h f k = f k

among_149 : (y : ℕ) (ps : List (List ℕ)) → Each149 ps → is_among y ps ≡ true → length (year_among y ps) ≡ 149
among_149 y [] e h = absurd (let z : ◌≡◌ {A = ℕ} 0 1 = cc in omega arith)
among_149 y (p ∷ ps) e h = either_149 (eqb (two_at p 1) y) (is_among y ps) p (year_among y ps) e.0 (among_149 y ps e.1) h

if_sound_lem : (c : Checked) (x : Sought) → is_sound c ≡ true → if_sound c x ≡ x
if_sound_lem (sound e) x h = refl
if_sound_lem (faulty n at) x h = absurd (let z : ◌≡◌ {A = ℕ} 0 1 = cc in omega arith)

module _ (s : List ℕ) (N : ℤ) (h : bad_year N ≡ false) (o : is_sound (book_of s) ≡ true) where
  sought : seek_of s N ≡ seek_in (year_index N) 0 s
  sought = seek_inside s N h ∙ if_sound_lem (book_of s) (seek_in (year_index N) 0 s) o

  pub found_exactly : is_found (seek_of s N) ≡ is_among (year_index N) (parts_of s)
  found_exactly = ap is_found sought ∙ (agrees (year_index N) s (length s) 0 0 (omega arith) o).1

  pub found_part : part_of s (seek_of s N) ≡ year_among (year_index N) (parts_of s)
  found_part = ap (part_of s) sought ∙ (agrees (year_index N) s (length s) 0 0 (omega arith) o).0

  pub found_149 : is_found (seek_of s N) ≡ true → length (part_of s (seek_of s N)) ≡ 149
  found_149 f = ap length found_part ∙ among_149 (year_index N) (parts_of s) (parts_149 (length s) s 0 0) (sym found_exactly ∙ f)

  pub absent_refused : is_among (year_index N) (parts_of s) ≡ false → seek_of s N ≡ no_year 12
  absent_refused a = sought ∙ found_or_12 (length s) (year_index N) 0 s (ap is_found (sym sought) ∙ (found_exactly ∙ a))

pub found_inside : (s : List ℕ) (N : ℤ) (a e : ℕ) → seek_of s N ≡ found a e → (a < e) × (e ≤ length s)
found_inside s N a e h = let w = found_within s N a e h in (w.to, omega (arith, w))

pub part_found : (s : List ℕ) (N : ℤ) (a e : ℕ) → found a e ≡ seek_of s N → (a < e) × (e ≤ length s)
part_found s N a e h = found_inside s N a e (sym h)
