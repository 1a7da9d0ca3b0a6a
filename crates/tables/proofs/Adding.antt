-- An entry and its step are the next entry: so the steps, added up, give the definition's table back. Assumes nothing.
use mathlib.Core.List.{List, [], ◌∷◌, ◌++◌}
use mathlib.Core.Path.{◌≡◌, refl, ap, sym, subst, ◌∙◌}
use Prim.Native.Nat.{ℕ, zero, suc, ◌+◌, ◌-◌, ◌≤◌, ◌<◌}
use native.Mathlib.Nat.{not-suc-le-zero, le_of_suc-le-suc}
use native.Mathlib.Numerals.{add-one}
use native.Mathlib.Omega.{arith}
use native.Mathlib.Decide.{dec_lt}
use lib.ListN.{length, get_or, set, take, drop, get_or-eq_default}
use Rattle.std.proofs.lemmas.List.{drop_all}
use Rattle.std.proofs.lemmas.List.Sums.{sum_by_more}
use Rattle.std.specs.List.{sum}
use Rattle.reasoning.proofs.Stored.{more_stored}
use Rattle.law.specs.Sines.{sines}
use Rattle.law.specs.Entry.{last_sine, sine_entry}
use Rattle.law.proofs.Rules.{sine_step, sine_top, sine_past, sine_ends}
use Rattle.tables.specs.Steps.{steps_of, entry_and_step}

step_at : (entries : List ℕ) (k : ℕ) → suc k < length entries → get_or (steps_of entries) k 0 ≡ get_or entries (suc k) 0 - get_or entries k 0
unfolding steps_of
step_at [] k h = absurd (not-suc-le-zero h)
step_at (x ∷ []) k h = absurd (not-suc-le-zero (le_of_suc-le-suc h))
step_at (x ∷ y ∷ more) zero h = refl
step_at (x ∷ y ∷ more) (suc k) h = step_at (y ∷ more) k (le_of_suc-le-suc h)

sines_long : length sines ≡ 541
unfolding sines
sines_long = refl

-- the step that is read at k, of a list that has the table's steps
pub record Step (k step : ℕ) : Type 0 where
  pub is : step ≡ sine_entry (k + 1) - sine_entry k
  pub next : sine_entry k + step ≡ sine_entry (k + 1)
  pub most : sine_entry (k + 1) ≤ 10_000_000

pub step_read : {steps : List ℕ} → steps ≡ steps_of sines → (k : ℕ) → k < last_sine → Step k (get_or steps k 0)
unfolding sine_entry
step_read {steps} e k h =
    let is : get_or steps k 0 ≡ get_or sines (k + 1) 0 - get_or sines k 0 = rw (e, add-one) (step_at sines k (omega (arith, sines_long))) in
    record {
      is = is;
      next = omega (arith, is, sine_step k h);
      most = sine_top (k + 1) (omega arith);
    }

steps_long : {steps : List ℕ} → steps ≡ steps_of sines → length steps ≡ last_sine
unfolding steps_of sines
steps_long e = ap length e

-- the first k steps add up to the entry at k
pub steps_sum : (steps : List ℕ) (k : ℕ) → steps ≡ steps_of sines → k ≤ last_sine → sum (take k steps) ≡ sine_entry k
steps_sum steps zero e h = sym sine_ends.0
steps_sum steps (suc k) e h =
    let next = step_read e k (omega arith) in
    let so_far = steps_sum steps k e (omega arith) in
    rw (sym (add-one k)) (omega (arith, sum_by_more (λ x. x) steps k 0 (omega (arith, steps_long e)), so_far, next.next))

-- ---- an entry with its step: past the last seat both are 0, at the last entry there is no step, before it the step is the definition's

both : (k e s : ℕ) → e ≡ sine_entry k → s ≡ sine_entry (k + 1) - sine_entry k → record { entry = e; step = s } ≡ entry_and_step k
both k e s p q = rw (p, q) refl

pub past_the_end : (k : ℕ) → last_sine < k → record { entry = 0; step = 0 } ≡ entry_and_step k
past_the_end k h = both k 0 0 (omega (arith, sine_past k (omega arith))) (omega (arith, sine_past (k + 1) (omega arith)))

pub at_the_end : (k e : ℕ) → k ≡ last_sine → e ≡ sine_entry k → record { entry = e; step = 0 } ≡ entry_and_step k
at_the_end k e h p = both k e 0 p (omega (arith, sine_past (k + 1) (omega arith)))

pub before_the_end : (steps : List ℕ) (k e : ℕ) → steps ≡ steps_of sines → k < last_sine → e ≡ sine_entry k
    → record { entry = e; step = get_or steps k 0 } ≡ entry_and_step k
before_the_end steps k e q h p = both k e _ p (step_read q k h).is

-- a step that is looked up past the last is 0
pub up_to_the_end : (steps : List ℕ) (k e : ℕ) → steps ≡ steps_of sines → k ≤ last_sine → e ≡ sine_entry k
    → record { entry = e; step = get_or steps k 0 } ≡ entry_and_step k
up_to_the_end steps k e q h p = go (dec_lt k last_sine)
  where
    go : Dec (k < last_sine) → record { entry = e; step = get_or steps k 0 } ≡ entry_and_step k
    go (yes l) = before_the_end steps k e q l p
    go (no g) = let last : k ≡ last_sine = omega arith in rw (get_or-eq_default steps 0 {n = k} (omega (arith, last, steps_long q))) (at_the_end k e last p)

-- ---- the table while it is rebuilt: its first k entries are the definition's, the others as they were, and the entry at hand is the next

abbrev pub Rebuilt : List ℕ → List ℕ → ℕ → ℕ → Type 0
Rebuilt before table entry k = (table ≡ take k sines ++ drop k before) × (entry ≡ sine_entry k)

pub one_more : (before : List ℕ) {table : List ℕ} {entry : ℕ} (k : ℕ) → length before ≡ 541 → k ≤ last_sine → Rebuilt before table entry k
    → set table k entry ≡ take (k + 1) sines ++ drop (k + 1) before
unfolding sine_entry
one_more before k l h r = rw (r.1, r.0) (more_stored sines before k 0 (omega (arith, sines_long)) (omega (arith, l)))

-- with the last entry, all are the definition's
whole : (before : List ℕ) → length before ≡ 541 → take 541 sines ++ drop 541 before ≡ sines
unfolding sines
whole before l = rw (drop_all 541 before (omega (arith, l))) refl

pub last_one : (before : List ℕ) {table : List ℕ} {entry : ℕ} (k : ℕ) → length before ≡ 541 → k ≡ last_sine → Rebuilt before table entry k → set table last_sine entry ≡ sines
last_one before {table} {entry} k l e r = one_more before last_sine l (omega arith) (subst (Rebuilt before table entry) e r) ∙ whole before l
