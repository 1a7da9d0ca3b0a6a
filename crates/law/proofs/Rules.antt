-- Document 01's rules of the two tables, each one test that antt computes over every entry, carried to any seat. Assumes nothing.
use mathlib.Core.Path.{◌≡◌, refl, ap}
use mathlib.Core.Bool.{Bool, ◌&&◌}
use Prim.Native.Nat.{ℕ, zero, suc, ◌+◌, ◌*◌, ◌-◌, ◌≤◌, ◌<◌}
use native.Mathlib.Omega.{arith}
use lib.Dec.{leb, leb→le}
use lib.ListN.{get_or-eq_default}
use Rattle.reasoning.proofs.Every.{seat, orders}
use Rattle.law.specs.Sines.{sines}
use Rattle.law.specs.Tangents.{tangents}
use Rattle.law.specs.Entry.{last_sine, last_tangent, sine_entry, tangent_entry}

-- ---- the sine table

-- the sine steps are from 42 to 29,089
abbrev step_test : ℕ → Bool
step_test k = leb (sine_entry k + 42) (sine_entry (k + 1)) && leb (sine_entry (k + 1)) (sine_entry k + 29_089)

pub sine_step : (k : ℕ) → k < last_sine → (sine_entry k + 42 ≤ sine_entry (k + 1)) × (sine_entry (k + 1) ≤ sine_entry k + 29_089)
unfolding sine_entry sines
sine_step k h = orders (seat step_test last_sine tt k h)

-- each step exceeds the one before by at most 1 and falls by at most 86; twice the middle entry less its neighbours is the fall
abbrev bend_test : ℕ → Bool
bend_test k =
    leb (sine_entry (k + 2) + sine_entry k) (2 * sine_entry (k + 1) + 1) && leb (2 * sine_entry (k + 1)) (sine_entry (k + 2) + sine_entry k + 86)

pub sine_bend : (k : ℕ) → k + 1 < last_sine
    → (sine_entry (k + 2) + sine_entry k ≤ 2 * sine_entry (k + 1) + 1) × (2 * sine_entry (k + 1) ≤ sine_entry (k + 2) + sine_entry k + 86)
unfolding sine_entry sines
sine_bend k h = orders (seat bend_test 539 tt k (omega arith))

-- the squares of an entry and of its mirror sum to within 14,142,136 of the radius squared
abbrev pub mirror_squares : ℕ → ℕ
mirror_squares k = sine_entry k * sine_entry k + sine_entry (last_sine - k) * sine_entry (last_sine - k)

abbrev radius_squared : ℕ
radius_squared = 10_000_000 * 10_000_000

abbrev mirror_test : ℕ → Bool
mirror_test k = leb radius_squared (mirror_squares k + 14_142_136) && leb (mirror_squares k) (radius_squared + 14_142_136)

pub sine_mirror : (k : ℕ) → k ≤ last_sine → (radius_squared ≤ mirror_squares k + 14_142_136) × (mirror_squares k ≤ radius_squared + 14_142_136)
unfolding sine_entry sines
sine_mirror k h = orders (seat mirror_test 541 tt k (omega arith))

-- the first entry is 0, the last the radius, and so none is above the radius
pub sine_ends : (sine_entry 0 ≡ 0) × (sine_entry last_sine ≡ 10_000_000)
unfolding sine_entry sines
sine_ends = (refl, refl)

pub sine_top : (k : ℕ) → k ≤ last_sine → sine_entry k ≤ 10_000_000
unfolding sine_entry sines
sine_top k h = leb→le (sine_entry k) 10_000_000 (seat (λ (i : ℕ). leb (sine_entry i) 10_000_000) 541 tt k (omega arith))

-- ---- the tangent table

-- tangent steps are from 2,908 to 2,914
abbrev tangent_test : ℕ → Bool
tangent_test m = leb (tangent_entry m + 2_908) (tangent_entry (m + 1)) && leb (tangent_entry (m + 1)) (tangent_entry m + 2_914)

pub tangent_step : (m : ℕ) → m < last_tangent
    → (tangent_entry m + 2_908 ≤ tangent_entry (m + 1)) × (tangent_entry (m + 1) ≤ tangent_entry m + 2_914)
unfolding tangent_entry tangents
tangent_step m h = orders (seat tangent_test last_tangent tt m h)

pub tangent_first : tangent_entry 0 ≡ 0
unfolding tangent_entry tangents
tangent_first = refl

-- n steps on from an entry
pub tangent_run : (n m : ℕ) → m + n ≤ last_tangent
    → (tangent_entry m + 2_908 * n ≤ tangent_entry (m + n)) × (tangent_entry (m + n) ≤ tangent_entry m + 2_914 * n)
tangent_run zero m h = let e : m + 0 ≡ m = omega arith in omega (arith, ap tangent_entry e)
tangent_run (suc n) m h =
    let e : m + suc n ≡ m + n + 1 = omega arith in
    omega (arith, ap tangent_entry e, tangent_run n m (omega arith), tangent_step (m + n) (omega arith))

pub tangent_range : (m : ℕ) → m ≤ last_tangent → (2_908 * m ≤ tangent_entry m) × (tangent_entry m ≤ 2_914 * m)
tangent_range m h = let e : 0 + m ≡ m = omega arith in omega (arith, ap tangent_entry e, tangent_run m 0 (omega arith), tangent_first)

-- ---- past the end

pub sine_past : (k : ℕ) → last_sine < k → sine_entry k ≡ 0
unfolding sine_entry sines
sine_past k h = get_or-eq_default sines 0 {n = k} (omega arith)

pub tangent_past : (m : ℕ) → last_tangent < m → tangent_entry m ≡ 0
unfolding tangent_entry tangents
tangent_past m h = get_or-eq_default tangents 0 {n = m} (omega arith)
