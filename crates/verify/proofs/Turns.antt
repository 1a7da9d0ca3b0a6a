-- What the code of `verify_book` knows at each turn: the years left decide. Assumes nothing.
use mathlib.Core.Bool.{true}
use mathlib.Core.List.{List, [], ◌++◌}
use mathlib.Core.Path.{◌≡◌, refl, sym, ◌∙◌, ap}
use Prim.Native.Nat.{ℕ, zero, suc, ◌+◌, ◌-◌, ◌*◌, ◌≤◌, ◌<◌}
use native.Mathlib.Decide.{dec_lt}
use native.Mathlib.Omega.{arith}
use lib.ListN.{length, get_or, take, drop, length-append, length-drop}
use lib.Seq.{get_or-take, length-take-le, take_at, drop_at, drop-drop}
use Rattle.law.specs.Book.{two_at, year_size, book_from, book_of, parts_from, parts_of}
use Rattle.book.proofs.BookSteps.{is_sound, next_end}
use Rattle.book.proofs.WholeBooks.{handed, by_dec}
use Rattle.verify.specs.Verify.{Verdict, ours, not_ours, year_verdict, unless_ours, years_verdict, verdict_of}
use Rattle.verify.proofs.Ours.{after_sound}

-- the years of a sound book from a byte on, and the verdict that they give
pub record Left (e : ℕ) (s : List ℕ) (at : ℕ) (verdict : Verdict) : Type 0 where
  pub least : ℕ
  pub calls : ℕ
  pub enough : length s ≤ at + calls
  pub sound : is_sound (book_from least at (drop at s)) ≡ true
  pub gives : years_verdict e at (parts_from calls s at least) ≡ verdict

-- one of them: its part, and those after it
pub record Turn (e : ℕ) (s : List ℕ) (at : ℕ) (verdict : Verdict) : Type 0 where
  pub after : Verdict
  pub room : at + 149 ≤ length s
  pub kind : get_or (take 149 (drop at s)) 0 0 ≡ 1
  pub number : two_at (take 149 (drop at s)) 1 ≤ 4_000
  pub gives : unless_ours (year_verdict e at (take 149 (drop at s))) after ≡ verdict
  pub left : Left e s (at + 149) after

module _ (e : ℕ) (s : List ℕ) where
  pub all_left : is_sound (book_of s) ≡ true → Left e s 0 (verdict_of e s)
  unfolding verdict_of
  all_left c =
      record { least = 0; calls = length s; enough = omega arith; sound = c; gives = sym (after_sound (book_of s) (years_verdict e 0 (parts_of s)) c) }

  none_left : (calls at least : ℕ) → length s ≤ at → parts_from calls s at least ≡ []
  unfolding parts_from
  none_left zero at least h = refl
  none_left (suc calls) at least h = rw (next_end s at least h)

  pub left_none : (at : ℕ) {verdict : Verdict} → length s ≤ at → Left e s at verdict → ours ≡ verdict
  unfolding years_verdict
  left_none at h l = ap (years_verdict e at) (sym (none_left l.calls at l.least h)) ∙ l.gives

  turn_from : (calls at least : ℕ) {verdict : Verdict} → at < length s → length s ≤ at + calls → is_sound (book_from least at (drop at s)) ≡ true
      → years_verdict e at (parts_from calls s at least) ≡ verdict → Turn e s at verdict
  unfolding parts_from years_verdict
  turn_from zero at least w g c q = absurd (omega arith)
  turn_from (suc calls) at least w g c q =
      let m = handed s at least w c in
      let b = drop at s in
      let head = m.went.year.head in
      let size : year_size b ≡ 149 = omega (arith, head.size) in
      let to : m.end ≡ at + 149 = omega (arith, m.went.to, size) in
      let own : m.end - at ≡ 149 = omega arith in
      let room : at + 149 ≤ length s = omega (arith, m.went.room) in
      let long : length (take 149 b) ≡ 149 = length-take-le 149 b (omega (arith, length-drop at s)) in
      record {
        after = years_verdict e (at + 149) (parts_from calls s (at + 149) m.after);
        room = room;
        kind = get_or-take 149 b 0 0 (omega arith) ∙ head.kind;
        number = rw (get_or-take 149 b 1 0 (omega arith), get_or-take 149 b 2 0 (omega arith)) head.number;
        gives = rw (m.next, own, long, to) at q;
        left = record { least = m.after; calls = calls; enough = omega arith; sound = rw to at m.sound_on; gives = refl };
      }

  pub turn : (at : ℕ) {verdict : Verdict} → at < length s → Left e s at verdict → Turn e s at verdict
  turn at w l = turn_from l.calls at l.least w l.enough l.sound l.gives

  -- the book is gone through year by year: so many are behind, and what is left starts with the next
  pub record Going (rest : List ℕ) (size years : ℕ) : Type 0 where
    pub ahead : rest ≡ drop (years * 149) s
    pub long : size ≡ 149
    pub left : Left e s (years * 149) (verdict_of e s)

  pub at_start : (rest : List ℕ) (size years : ℕ) → is_sound (book_of s) ≡ true → rest ≡ s → size ≡ 149 → years ≡ 0 → Going rest size years
  at_start rest size years c r z y =
      let n : years * 149 ≡ 0 = omega arith in
      record { ahead = rw n r; long = z; left = rw n (all_left c) }

  -- the next year's part and what is then left
  module _ (rest next part : List ℕ) (size years : ℕ) (g : Going rest size years) (cut : rest ≡ part ++ next) (whole : length part ≡ size) where
    within : years * 149 < length s
    within = omega (arith, ap length cut, ap length g.ahead, length-append part next, length-drop (years * 149) s, g.long)

    pub its_turn : Turn e s (years * 149) (verdict_of e s)
    its_turn = turn (years * 149) within g.left

    pub its_part : part ≡ take 149 (drop (years * 149) s)
    its_part = sym (ap (take 149) (sym g.ahead ∙ cut) ∙ take_at part next 149 (whole ∙ g.long))

    -- its verdict decides, or those after it
    decided : (v : Verdict) → v ≡ year_verdict e (years * 149) part → unless_ours v its_turn.after ≡ verdict_of e s
    decided v o = ap (λ (v : Verdict). unless_ours v its_turn.after) (o ∙ ap (year_verdict e (years * 149)) its_part) ∙ its_turn.gives

    pub goes_on : (size' years' : ℕ) → size' ≡ size → years' ≡ years + 1 → ours ≡ year_verdict e (years * 149) part → Going next size' years'
    goes_on size' years' z y o =
        let ahead : next ≡ drop (years * 149 + 149) s =
        sym (drop_at part next 149 (whole ∙ g.long)) ∙ (ap (drop 149) (sym cut ∙ g.ahead) ∙ drop-drop 149 (years * 149) s) in
        let up : years' * 149 ≡ years * 149 + 149 = omega arith in
        let same : its_turn.after ≡ verdict_of e s = decided ours o in
        record { ahead = rw up ahead; long = z ∙ g.long; left = rw (up, ← same) its_turn.left }

    pub stands : (byte : ℕ) → not_ours byte ≡ year_verdict e (years * 149) part → not_ours byte ≡ verdict_of e s
    stands byte o = decided (not_ours byte) o

  -- less is left than a year
  pub at_end : (rest : List ℕ) (size years : ℕ) → Going rest size years → length rest < size → ours ≡ verdict_of e s
  at_end rest size years g l =
      by_dec (dec_lt (years * 149) (length s))
      (λ w. absurd (omega (arith, (turn (years * 149) w g.left).room, ap length g.ahead, length-drop (years * 149) s, g.long)))
      (λ n. left_none (years * 149) (omega arith) g.left)
