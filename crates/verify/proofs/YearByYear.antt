-- Written years beside our writer's years of their own Ns, one after the other: what is told is that all are ours, and then their bytes are, or
-- the byte of the first record that is not ours. Assumes nothing.
use mathlib.Core.Bool.{false}
use mathlib.Core.List.{List, [], ◌∷◌, ◌++◌, map}
use mathlib.Core.Logic.{inl, inr}
use mathlib.Core.Path.{◌≡◌, refl, sym, subst, ◌∙◌, ap, ap₂}
use Prim.Native.Nat.{ℕ, ◌+◌, ◌≤◌}
use native.Mathlib.Omega.{arith}
use lib.IntN.{ℤ, pos, ◌-ℤ◌}
use lib.ListN.{length}
use Rattle.law.specs.Document.{epicycles, bad_year}
use Rattle.law.specs.Index.{year_index}
use Rattle.law.specs.Book.{BookYear, together, bytes_of, worked_year, worked_answer}
use Rattle.motion.proofs.TermAnswers.{none_off}
use Rattle.units.proofs.Counts.{count_back}
use Rattle.values.proofs.WrittenIsRead.{bytes_before, bytes_number, Fits, worked_year_fits}
use Rattle.values.proofs.RisingYears.{Rising}
use Rattle.verify.specs.Verify.{Verdict, ours, not_ours, refused_at, number_in, year_verdict, unless_ours, years_verdict, written_year, written_years}
use Rattle.verify.proofs.YearsOfBook.{year_bytes}
use Rattle.verify.proofs.FirstRecord.{RecordAt, FirstAt, later}
use Rattle.verify.proofs.Beside.{Known, known_by, SameYear, OtherRecord, year_beside_lem}

-- a verdict, then another
both_known : {same : Type 0} {first : ℕ → Type 0} (same' : Type 0) (first' : ℕ → Type 0) (v next : Verdict) → Known same first v → (same → Known same' first' next) → ((at : ℕ) → first at → first' at)
    → Known same' first' (unless_ours v next)
both_known same' first' ours next k f g = f k
both_known same' first' (not_ours at) next k f g = g at k
both_known same' first' (refused_at number byte) next k f g = absurd k

-- ---- our writer's year

pub number_is : (v : BookYear) → Fits v → number_in (year_bytes v) ≡ v.year_n
number_is v f = ap (λ (y : ℕ). pos y -ℤ pos 2_000) (bytes_number v [] f) ∙ count_back 2_000 2_000 v.year_n f.year

module _ (e : ℕ) (o : e ≤ epicycles) where
  pub written_is : (N : ℤ) → bad_year N ≡ false → written_year e N ≡ year_bytes (worked_year e N)
  unfolding worked_answer
  written_is N h = rw (h, none_off e o N 24)

  -- ---- years one after the other

  -- the first record of these years that is not ours, so many bytes after their start
  pub record OtherIn (from : ℕ) (bs : List (List ℕ)) (at : ℕ) : Type 0 where
    pub gone : ℕ
    pub place : at ≡ from + gone
    pub which : RecordAt from bs at
    pub first : FirstAt (together bs) (written_years e (map number_in bs)) gone

  -- these years are ours, byte for byte
  abbrev pub OursIn : List (List ℕ) → Type 0
  OursIn bs = together bs ≡ written_years e (map number_in bs)

  module _ (v : BookYear) (f : Fits v) where
    abbrev own : BookYear
    own = worked_year e v.year_n

    own_fits : Fits own
    own_fits = worked_year_fits e o v.year_n f.year

    own_written : year_bytes own ≡ written_year e (number_in (year_bytes v))
    own_written = sym (written_is v.year_n f.year) ∙ ap (written_year e) (sym (number_is v f))

    own_number : v.year_n ≡ own.year_n
    unfolding worked_year
    own_number = refl

    this_year : (from : ℕ) → Known (SameYear v own) (OtherRecord from v own) (year_verdict e from (year_bytes v))
    this_year from = rw (number_is v f) (year_beside_lem v own f own_fits own_number from [])

  pub years_known : (vs : List BookYear) (least from : ℕ) → Rising least vs → Known (OursIn (map year_bytes vs)) (OtherIn from (map year_bytes vs)) (years_verdict e from (map year_bytes vs))
  unfolding years_verdict RecordAt
  years_known [] least from g = refl
  years_known (v ∷ vs) least from g =
      let f = g.0 in
      let b = year_bytes v in
      let bs = map year_bytes vs in
      let ws = written_years e (map number_in bs) in
      let i = years_known vs (year_index v.year_n + 1) (from + length b) g.1.1 in
      both_known (OursIn (b ∷ bs)) (OtherIn from (b ∷ bs)) (year_verdict e from b) (years_verdict e (from + length b) bs) (this_year v f from)
      (λ s.
      let same : b ≡ written_year e (number_in b) = s [] ∙ own_written v f in
      known_by
      (λ k. ap₂ (λ (x y : List ℕ). x ++ y) same k)
      (λ (at : ℕ) k.
      record {
        gone = length b + k.gone;
        place = omega (arith, k.place);
        which = inr k.which;
        first = subst (λ (x : List ℕ). FirstAt (b ++ together bs) (x ++ ws) (length b + k.gone)) same (later b (together bs) ws k.gone k.first);
      })
      (years_verdict e (from + length b) bs) i)
      (λ (at : ℕ) k.
      let right : bytes_of (own v f) ws ≡ written_year e (number_in b) ++ ws = bytes_before (own v f) ws ∙ ap (λ (x : List ℕ). x ++ ws) (own_written v f) in
      record {
        gone = k.gone;
        place = k.place;
        which = inl k.which;
        first = rw (← right, ← bytes_before v (together bs)) (k.first (together bs) ws);
      })

  -- where they are ours, no record is told
  pub told_ours : (from : ℕ) (bs : List (List ℕ)) (v : Verdict) → Known (OursIn bs) (OtherIn from bs) v → OursIn bs → v ≡ ours
  told_ours from bs ours k s = refl
  told_ours from bs (not_ours at) k s =
      let same : FirstAt (together bs) (together bs) k.gone = subst (λ (w : List ℕ). FirstAt (together bs) w k.gone) (sym s) k.first in
      absurd (same.other refl)
  told_ours from bs (refused_at number byte) k s = absurd k
