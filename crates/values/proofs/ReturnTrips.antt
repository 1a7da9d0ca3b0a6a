-- The two calls between bytes and values return to each other: what one has written the other reads, counts aside; and what one has
-- read the other writes, the same bytes, into any buffer that has room. Assumes nothing.
use mathlib.Core.Bool.{false, ◌||◌}
use mathlib.Core.List.{List, [], ◌++◌}
use mathlib.Core.Path.{◌≡◌, refl, sym, ap, subst, ◌∙◌}
use Prim.Native.Nat.{ℕ, zero, suc, ◌+◌, ◌≤◌}
use native.Mathlib.Omega.{arith}
use borrow.Author.Tests.{le-ltb, ltb-false}
use lib.Dec.{ltb}
use lib.IntN.{pos, neg_ℤ, ◌-ℤ◌}
use lib.ListN.{length, take, drop}
use lib.Seq.{take_at}
use lib.Signed.{lt_z}
use Rattle.reasoning.proofs.Whole.{Is, is_pos, is_neg, is_minus, lt_z_is}
use Rattle.reasoning.specs.Answer.{Answer, value}
use Rattle.law.specs.Document.{bad_year}
use Rattle.law.specs.Book.{BookYear, Checked, sound, two_at, year_size, year_from, bytes_of, terms_in, values_in, read_answer, head_of, head_read, terms_read, any_bad, bad_values, write_answer}
use Rattle.reasoning.proofs.Answers.{PassedAll, passed_all}
use Rattle.reasoning.proofs.Answers.{both_no}
use Rattle.book.proofs.YearSteps.{SoundTerms, SoundYear, year_sound}
use Rattle.values.proofs.ReadForRoom.{terms_many, read_as}
use Rattle.values.proofs.WriteAnswers.{write_done}
use Rattle.values.proofs.WrittenIsRead.{bytes_before, bytes_long, Fits, counts_aside, written_accepted, written_reads_back}
use Rattle.values.proofs.ReadIsWritten.{Bytes, written_again}

-- ---- what is written is read

-- reading the bytes c into a list of so many records answers the year v, counts aside
pub record ReadsBack (v : BookYear) (c : List ℕ) (room : ℕ) : Type 0 where
  pub says : read_answer c room ≡ value (sound 149)
  pub head : head_read (read_answer c room) c ≡ head_of v
  pub terms : terms_read (read_answer c room) c ≡ value (counts_aside v).year_terms

-- v is given to be written with the first 24 records of a list, b is the buffer before and c afterwards
module _ (v : BookYear) (b c : List ℕ) (few : length v.year_terms ≤ 24) (w : write_answer v b ≡ value c) where
  passes : PassedAll (bad_year v.year_n) (ltb (length v.year_terms) 24 || ltb (length b) 149) (bad_values v) c (bytes_of v (drop 149 b))
  unfolding write_answer
  passes =
      passed_all 1 6 9 (bytes_of v (drop 149 b)) (bad_year v.year_n) (ltb (length v.year_terms) 24 || ltb (length b) 149) (bad_values v) (sym w)

  fits : Fits v
  fits =
      let room = both_no (ltb (length v.year_terms) 24) (ltb (length b) 149) passes.second in
      record { year = passes.first; rest = passes.third; all = omega (arith, ltb-false (length v.year_terms) 24 room.0) }

  pub written_is_read : (room : ℕ) → 24 ≤ room → ReadsBack v c room
  written_is_read room h =
      let d = bytes_of v (drop 149 b) in
      let says = read_as d room h (written_accepted v (drop 149 b) fits 0 0 (omega arith)) in
      let back = written_reads_back v (drop 149 b) fits in
      subst (λ (x : List ℕ). ReadsBack v x room) (sym passes.is)
      (record {
        says = says;
        head = ap (λ (a : Answer Checked). head_read a d) says ∙ ap head_of back;
        terms = ap (λ (a : Answer Checked). terms_read a d) says ∙ ap (λ (u : BookYear). value u.year_terms) back;
      })

-- ---- what is read is written

-- a count from the least allowed to the most is of a number in its range
pub in_range : (lo hi n : ℕ) → n ≤ lo + hi → (lt_z (pos n -ℤ pos lo) (neg_ℤ (pos lo)) || lt_z (pos hi) (pos n -ℤ pos lo)) ≡ false
in_range lo hi n h =
    let g : Is (pos n -ℤ pos lo) (n + 0) (0 + lo) = is_minus (is_pos n) (is_pos lo) in
    let low : lt_z (pos n -ℤ pos lo) (neg_ℤ (pos lo)) ≡ false = lt_z_is g (is_neg (is_pos lo)) ∙ le-ltb (n + 0 + lo) (0 + (0 + lo)) (omega arith) in
    let high : lt_z (pos hi) (pos n -ℤ pos lo) ≡ false = lt_z_is (is_pos hi) g ∙ le-ltb (hi + (0 + lo)) (n + 0 + 0) (omega arith) in
    rw (low, high) refl

none_bad : (n k : ℕ) (b : List ℕ) → SoundTerms n k b → any_bad (terms_in n b) ≡ false
unfolding any_bad terms_in SoundTerms
none_bad zero k b g = refl
none_bad (suc n) k b g =
    let s = g.0 in
    rw (in_range 4 370 (two_at b 2) s.day, le-ltb 1_439 (two_at b 4) s.minute, none_bad n (suc k) (drop 6 b) g.1) refl

-- the values of an accepted year may be written
pub read_fits : (least : ℕ) (s : List ℕ) → SoundYear least s → Fits (values_in s)
unfolding values_in bad_values
read_fits least s g =
    let h = g.head in
    record {
      year = in_range 2_000 2_000 (two_at s 1) h.number;
      rest = rw (le-ltb 59 _ h.name, le-ltb 27 _ h.mansion) (none_bad 24 0 _ g.terms);
      all = terms_many 24 _;
    }

-- s is lent bytes that start with a year, b a buffer
pub read_is_written : (s : List ℕ) → Bytes s → (e : ℕ) → year_from 0 0 s ≡ sound e → (b : List ℕ) → 149 ≤ length b
    → write_answer (values_in s) b ≡ value (take 149 s ++ drop 149 b)
read_is_written s h e q b l =
    let g = year_sound 0 0 s e q in
    let v = values_in s in
    let f = read_fits 0 s g in
    let again : bytes_of v [] ++ drop (year_size s) s ≡ s = sym (bytes_before v (drop (year_size s) s)) ∙ written_again 0 s h g in
    let own : take 149 s ≡ bytes_of v [] = ap (take 149) (sym again) ∙ take_at (bytes_of v []) (drop (year_size s) s) 149 (bytes_long v f.all) in
    write_done v b f.year (omega (arith, f.all)) l f.rest
    ∙ ap value (bytes_before v (drop 149 b) ∙ ap (λ (x : List ℕ). x ++ drop 149 b) (sym own))
