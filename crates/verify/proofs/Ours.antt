-- Document 02's request K4, over its definitions. A sound book gets "ours" exactly when it is, byte for byte, our writer's years of its own
-- Ns put together, whoever wrote it. Our writer's years with rising N always get it. Otherwise the byte told is exactly that of the first
-- record that differs: all before it is ours, and it is not. A book is refused exactly as the check refuses it, before any comparison: the
-- check accepts every book that is not ours. At any difference of the epicycles up to document 01's. Assumes nothing.
use mathlib.Core.Bool.{Bool, true, false}
use mathlib.Core.List.{List, [], ◌∷◌, ◌++◌, map}
use mathlib.Core.Path.{◌≡◌, refl, sym, subst, ◌∙◌, ap, ap₂}
use Prim.Native.Nat.{ℕ, ◌+◌, ◌-◌, ◌≤◌, ◌<◌}
use native.Mathlib.Decide.{dec_lt}
use native.Mathlib.Nat.{zero-add}
use native.Mathlib.Omega.{arith}
use borrow.Author.Tests.{le-ltb}
use lib.IntN.{ℤ, pos, neg_ℤ}
use lib.ListN.{length, get_or, drop}
use lib.Signed.{◌<ℤ◌}
use Rattle.reasoning.specs.Answer.{afterwards}
use Rattle.reasoning.proofs.Whole.{is_lt}
use Rattle.reasoning.proofs.Indexed.{indexed}
use Rattle.law.specs.Document.{epicycles, bad_year}
use Rattle.law.specs.Index.{year_index}
use Rattle.law.specs.Book.{Checked, sound, faulty, record_size, book_of, parts_of, together, worked_year, worked_answer}
use Rattle.motion.proofs.TermAnswers.{none_off}
use Rattle.book.proofs.BookSteps.{is_sound}
use Rattle.book.proofs.WholeBooks.{by_dec, parts_together}
use Rattle.values.proofs.WrittenIsRead.{bytes_before, worked_year_fits}
use Rattle.values.proofs.ReadIsWritten.{Bytes}
use Rattle.values.proofs.RisingYears.{all_of, Rising, rising_accepted}
use Rattle.verify.specs.Verify.{Verdict, ours, not_ours, refused_at, number_in, years_verdict, after_check, verdict_of, written_year, written_years, numbers_of}
use Rattle.verify.proofs.YearsOfBook.{year_bytes, parts_of_rising, years_of}
use Rattle.verify.proofs.FirstRecord.{RecordAt, record_in, FirstAt}
use Rattle.verify.proofs.OneFirst.{ends_before, same_record}
use Rattle.verify.proofs.Beside.{Known}
use Rattle.verify.proofs.YearByYear.{number_is, written_is, OtherIn, OursIn, years_known, told_ours}

-- ---- after the check

abbrev compares : Verdict → Bool
compares ours = true
compares (not_ours at) = true
compares (refused_at number byte) = false

passed : (c : Checked) (v w : Verdict) → compares w ≡ true → after_check c v ≡ w → (is_sound c ≡ true) × (v ≡ w)
passed (sound end) v w h q = (refl, q)
passed (faulty number byte) v w h q = absurd (let z : ◌≡◌ {A = Bool} false true = ap compares q ∙ h in let n : ◌≡◌ {A = ℕ} 0 1 = cc in omega arith)

pub after_sound : (c : Checked) (v : Verdict) → is_sound c ≡ true → after_check c v ≡ v
after_sound (sound end) v h = refl
after_sound (faulty number byte) v h = absurd (let n : ◌≡◌ {A = ℕ} 0 1 = cc in omega arith)

module _ (e : ℕ) (o : e ≤ epicycles) where
  -- the first record of a book that is not ours
  pub record FirstNotOurs (s : List ℕ) (at : ℕ) : Type 0 where
    pub which : RecordAt 0 (parts_of s) at
    pub first : FirstAt s (written_years e (numbers_of s)) at

  module _ (s : List ℕ) where
    pub refused_first : (number byte : ℕ) → book_of s ≡ faulty number byte → verdict_of e s ≡ refused_at number byte
    unfolding verdict_of
    refused_first number byte q = rw q

    pub ours_accepted : verdict_of e s ≡ ours → is_sound (book_of s) ≡ true
    unfolding verdict_of
    ours_accepted q = (passed (book_of s) (years_verdict e 0 (parts_of s)) ours refl q).0

    pub not_ours_accepted : (at : ℕ) → verdict_of e s ≡ not_ours at → is_sound (book_of s) ≡ true
    unfolding verdict_of
    not_ours_accepted at q = (passed (book_of s) (years_verdict e 0 (parts_of s)) (not_ours at) refl q).0

    module _ (h : Bytes s) where
      known : is_sound (book_of s) ≡ true → Known (OursIn e o (parts_of s)) (OtherIn e o 0 (parts_of s)) (years_verdict e 0 (parts_of s))
      known c = let y = years_of s h c in rw y.parts (years_known e o y.values 0 0 y.rises)

      faulty_by : (c : Checked) (number byte : ℕ) → book_of s ≡ c → after_check c (years_verdict e 0 (parts_of s)) ≡ refused_at number byte → book_of s ≡ faulty number byte
      faulty_by (sound end) number byte p q = absurd (subst (Known (OursIn e o (parts_of s)) (OtherIn e o 0 (parts_of s))) q (known (ap is_sound p)))
      faulty_by (faulty n at) number byte p q = let m : n ≡ number = cc in let b : at ≡ byte = cc in p ∙ ap₂ faulty m b

      pub refused_then_faulty : (number byte : ℕ) → verdict_of e s ≡ refused_at number byte → book_of s ≡ faulty number byte
      unfolding verdict_of
      refused_then_faulty number byte q = faulty_by (book_of s) number byte refl q

      pub ours_then_written : verdict_of e s ≡ ours → s ≡ written_years e (numbers_of s)
      unfolding verdict_of
      ours_then_written q =
          let p = passed (book_of s) (years_verdict e 0 (parts_of s)) ours refl q in
          sym (parts_together s p.0) ∙ subst (Known (OursIn e o (parts_of s)) (OtherIn e o 0 (parts_of s))) p.1 (known p.0)

      pub written_then_ours : is_sound (book_of s) ≡ true → s ≡ written_years e (numbers_of s) → verdict_of e s ≡ ours
      unfolding verdict_of
      written_then_ours c q =
          after_sound (book_of s) (years_verdict e 0 (parts_of s)) c
          ∙ told_ours e o 0 (parts_of s) (years_verdict e 0 (parts_of s)) (known c) (parts_together s c ∙ q)

      pub not_ours_then_first : (at : ℕ) → verdict_of e s ≡ not_ours at → FirstNotOurs s at
      unfolding verdict_of
      not_ours_then_first at q =
          let p = passed (book_of s) (years_verdict e 0 (parts_of s)) (not_ours at) refl q in
          let k : OtherIn e o 0 (parts_of s) at = subst (Known (OursIn e o (parts_of s)) (OtherIn e o 0 (parts_of s))) p.1 (known p.0) in
          let here : k.gone ≡ at = sym (k.place ∙ zero-add k.gone) in
          record {
            which = k.which;
            first = subst (λ (x : List ℕ). FirstAt x (written_years e (numbers_of s)) at) (parts_together s p.0)
                (subst (λ (i : ℕ). FirstAt (together (parts_of s)) (written_years e (numbers_of s)) i) here k.first);
          }

      -- there is only one such record, and its byte is told
      not_earlier : is_sound (book_of s) ≡ true → (p q : ℕ) → FirstNotOurs s p → FirstNotOurs s q → p < q → ⊥
      not_earlier c p q f g l =
          let y = years_of s h c in
          let all : together (map year_bytes y.values) ≡ s = ap together (sym y.parts) ∙ parts_together s c in
          let z : p - 0 ≡ p = omega arith in
          let ends : p + record_size (get_or s p 0) ≤ q = rw (all, z) at (ends_before y.values 0 0 p q y.rises (rw y.parts at f.which) (rw y.parts at g.which) l) in
          f.first.other (same_record s (written_years e (numbers_of s)) p (record_size (get_or s p 0)) q f.first.before g.first.before ends)

      one_first : is_sound (book_of s) ≡ true → (p q : ℕ) → FirstNotOurs s p → FirstNotOurs s q → p ≡ q
      one_first c p q f g =
          by_dec (dec_lt p q) (λ l. absurd (not_earlier c p q f g l))
          (λ n. by_dec (dec_lt q p) (λ l. absurd (not_earlier c q p g f l)) (λ m. omega arith))

      by_verdict : is_sound (book_of s) ≡ true → (at : ℕ) → FirstNotOurs s at → (v : Verdict) → verdict_of e s ≡ v → v ≡ not_ours at
      by_verdict c at f ours q = absurd (f.first.other (ap (record_in s at) (ours_then_written q)))
      by_verdict c at f (not_ours p) q = ap not_ours (one_first c p at (not_ours_then_first p q) f)
      by_verdict c at f (refused_at number byte) q =
          absurd (let z : ◌≡◌ {A = Bool} false true = ap is_sound (sym (refused_then_faulty number byte q)) ∙ c in let n : ◌≡◌ {A = ℕ} 0 1 = cc in omega arith)

      pub first_then_not_ours : is_sound (book_of s) ≡ true → (at : ℕ) → FirstNotOurs s at → verdict_of e s ≡ not_ours at
      first_then_not_ours c at f = by_verdict c at f (verdict_of e s) refl

-- ---- our writer's own books

-- Ns in range, each above the one before
abbrev pub Above : ℤ → List ℤ → Type 0
Above N [] = Unit
Above N (M ∷ Ms) = N <ℤ M

unfoldable pub RisingNs : List ℤ → Type 0
RisingNs [] = Unit
RisingNs (N ∷ Ns) = (bad_year N ≡ false) × (Above N Ns × RisingNs Ns)

abbrev AtLeast : ℕ → List ℤ → Type 0
AtLeast least [] = Unit
AtLeast least (N ∷ Ns) = least ≤ year_index N

next_least : (N : ℤ) (Ns : List ℤ) → bad_year N ≡ false → Above N Ns → RisingNs Ns → AtLeast (year_index N + 1) Ns
unfolding RisingNs
next_least N [] h a g = tt
next_least N (M ∷ Ms) h a g =
    let n = indexed 2_000 2_000 N (year_index N) h refl in
    let m = indexed 2_000 2_000 M (year_index M) g.0 refl in
    omega (arith, is_lt n.is m.is a)

module _ (e : ℕ) (o : e ≤ epicycles) where
  -- the writer leaves that year in any buffer that has room, and the later bytes as they were
  pub written_anywhere : (N : ℤ) → bad_year N ≡ false → (b : List ℕ) → 149 ≤ length b → afterwards b (worked_answer e N b) ≡ written_year e N ++ drop 149 b
  unfolding worked_answer
  written_anywhere N h b l =
      rw (written_is e o N h) (rw (h, le-ltb (length b) 149 l, none_off e o N 24) (bytes_before (worked_year e N) (drop 149 b)))

  worked_rise : (Ns : List ℤ) (least : ℕ) → AtLeast least Ns → RisingNs Ns → Rising least (map (worked_year e) Ns)
  unfolding RisingNs worked_year
  worked_rise [] least l g = tt
  worked_rise (N ∷ Ns) least l g =
      (worked_year_fits e o N g.0, (l, worked_rise Ns (year_index N + 1) (next_least N Ns g.0 g.1.0 g.1.1) g.1.1))

  all_written : (Ns : List ℤ) → RisingNs Ns → all_of (map (worked_year e) Ns) ≡ written_years e Ns
  unfolding RisingNs all_of
  all_written [] g = refl
  all_written (N ∷ Ns) g =
      bytes_before (worked_year e N) (all_of (map (worked_year e) Ns)) ∙ ap₂ (λ (x y : List ℕ). x ++ y) (sym (written_is e o N g.0)) (all_written Ns g.1.1)

  own_again : (N : ℤ) → bad_year N ≡ false → year_bytes (worked_year e N) ≡ written_year e (number_in (year_bytes (worked_year e N)))
  unfolding worked_year
  own_again N h = sym (written_is e o N h) ∙ ap (written_year e) (sym (number_is (worked_year e N) (worked_year_fits e o N h)))

  own_years : (Ns : List ℤ) → RisingNs Ns → OursIn e o (map year_bytes (map (worked_year e) Ns))
  unfolding RisingNs
  own_years [] g = refl
  own_years (N ∷ Ns) g = ap₂ (λ (x y : List ℕ). x ++ y) (own_again N g.0) (own_years Ns g.1.1)

  from_nought : (Ns : List ℤ) → AtLeast 0 Ns
  from_nought [] = tt
  from_nought (N ∷ Ns) = omega arith

  pub rising_ours : (Ns : List ℤ) → RisingNs Ns → verdict_of e (written_years e Ns) ≡ ours
  unfolding verdict_of
  rising_ours Ns g =
      let vs = map (worked_year e) Ns in
      let r = worked_rise Ns 0 (from_nought Ns) g in
      let bs = map year_bytes vs in
      subst (λ (s : List ℕ). verdict_of e s ≡ ours) (all_written Ns g)
      (after_sound (book_of (all_of vs)) (years_verdict e 0 (parts_of (all_of vs))) (rising_accepted vs 0 0 r)
      ∙ (ap (years_verdict e 0) (parts_of_rising vs r) ∙ told_ours e o 0 bs (years_verdict e 0 bs) (years_known e o vs 0 0 r) (own_years Ns g)))

-- such Ns are, from the least to the most
pub such_ns : RisingNs (neg_ℤ (pos 2_000) ∷ pos 0 ∷ pos 2_000 ∷ [])
unfolding RisingNs
such_ns = (refl, (record { lt = tt }, (refl, (record { lt = tt }, (refl, (tt, tt))))))
