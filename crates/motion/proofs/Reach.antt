-- No arc has a tangent above 358,475: one sum of sine and cosine, tested at every entry, is linear between two and so bounded there.
-- Assumes nothing.
use mathlib.Core.Path.{◌≡◌, refl, ap}
use Prim.Native.Nat.{ℕ, ◌+◌, ◌*◌, ◌-◌, ◌/◌, ◌%◌, ◌≤◌, ◌<◌}
use native.Mathlib.Nat.{mul-le-mul_left, div-lt_iff_lt-mul}
use native.Mathlib.Decide.{dec_lt, dec_le}
use native.Mathlib.Omega.{arith}
use borrow.Author.Tests.{le-leb, lt-leb}
use lib.Dec.{leb, leb→le}
use Rattle.reasoning.proofs.Every.{seat}
use Rattle.law.specs.Sines.{sines}
use Rattle.law.specs.Entry.{last_sine, sine_entry}
use Rattle.law.specs.Round.{half_up}
use Rattle.law.specs.Document.{half, quarter, radius, epicycles, ten_minutes, sine, cosine}
use Rattle.law.proofs.Rules.{sine_step}
use Rattle.motion.specs.Working.{height_of, base_of, near_of, far_of, tangent_of}
use Rattle.motion.proofs.Legs.{height_le, base_le}
use Rattle.motion.proofs.Slope.{full, between_le}

abbrev pub most_tangent : ℕ
most_tangent = 358_475

-- ---- the sum

-- a height over a long side reaches most_tangent and a half where four radii of the height reach this much of the side
abbrev weigh : ℕ → ℕ → ℕ
weigh s c = 4 * radius * s + (2 * most_tangent + 1) * c

abbrev most_weight : ℕ
most_weight = 400_065_000_000_000

abbrev entry_weight : ℕ → ℕ
entry_weight k = weigh (sine_entry k) (sine_entry (last_sine - k))

entry_weight_le : (k : ℕ) → k ≤ last_sine → entry_weight k ≤ most_weight
unfolding sine_entry sines
entry_weight_le k h = leb→le (entry_weight k) most_weight (seat (λ (i : ℕ). leb (entry_weight i) most_weight) 541 tt k (omega arith))

-- in plain numbers: what holds at two entries, a and b rising by u and v, holds r units on from the first
in_cell : (a u b v r q m : ℕ) → r + q ≡ ten_minutes → weigh a (b + v) ≤ m → weigh (a + u) b ≤ m
    → weigh (ten_minutes * a + u * r) (ten_minutes * b + v * q) ≤ ten_minutes * m
in_cell a u b v r q m e h g =
    omega (arith, mul-le-mul_left q h, mul-le-mul_left r g, ap (λ (z : ℕ). z * a) e, ap (λ (z : ℕ). z * b) e, ap (λ (z : ℕ). z * m) e)

-- k and 539 - k are the entries below an arc and below its complement
past_entry : (k r : ℕ) → k < last_sine → r ≤ ten_minutes
    → weigh (ten_minutes * sine_entry k + (sine_entry (k + 1) - sine_entry k) * r)
    (ten_minutes * sine_entry (539 - k) + (sine_entry (539 - k + 1) - sine_entry (539 - k)) * (ten_minutes - r)) ≤ ten_minutes * most_weight
past_entry k r h g =
    let e : 539 - k + 1 ≡ last_sine - k = omega arith in
    let f : last_sine - (k + 1) ≡ 539 - k = omega arith in
    in_cell (sine_entry k) (sine_entry (k + 1) - sine_entry k) (sine_entry (539 - k)) (sine_entry (539 - k + 1) - sine_entry (539 - k))
    r (ten_minutes - r) most_weight (omega arith)
    (omega (arith, entry_weight_le k (omega arith), ap sine_entry e, sine_step (539 - k) (omega arith)))
    (omega (arith, entry_weight_le (k + 1) (omega arith), ap sine_entry f, sine_step k (omega arith)))

full_weight_le : (x : ℕ) → x ≤ quarter → weigh (full sine_entry x) (full sine_entry (quarter - x)) ≤ ten_minutes * most_weight
unfolding full
full_weight_le x h = go (dec_lt 0 (x % ten_minutes))
  where
    go : Dec (0 < x % ten_minutes) → weigh (full sine_entry x) (full sine_entry (quarter - x)) ≤ ten_minutes * most_weight
    go (no l) =
        let m : x % ten_minutes ≡ 0 = omega arith in
        let e : (quarter - x) / ten_minutes ≡ last_sine - x / ten_minutes = omega arith in
        let n : (quarter - x) % ten_minutes ≡ 0 = omega arith in
        rw (m, e, n) (omega (arith, entry_weight_le (x / ten_minutes) (omega arith)))
    go (yes l) =
        let e : (quarter - x) / ten_minutes ≡ 539 - x / ten_minutes = omega arith in
        let n : (quarter - x) % ten_minutes ≡ ten_minutes - x % ten_minutes = omega arith in
        rw (e, n) (past_entry (x / ten_minutes) (x % ten_minutes) (omega arith) (omega arith))

weight_le : (x : ℕ) → x ≤ quarter → weigh (sine x) (cosine x) ≤ most_weight + 100_000_000
unfolding sine cosine
weight_le x h = omega (arith, full_weight_le x h, between_le sine_entry x, between_le sine_entry (quarter - x))

-- ---- the tangent, at any difference of the epicycles up to document 01's

-- the base is the height at the complement
pub base_is : (e x : ℕ) → base_of e x ≡ height_of e (quarter - x)
unfolding base_of height_of cosine
base_is e x = refl

-- a tangent from its height and its long side
reach : (height side : ℕ) → 0 < side → 4 * radius * height < (2 * most_tangent + 1) * side → half_up (2 * height * radius) side ≤ most_tangent
unfolding half_up
reach height side p g =
    let w : half_up (2 * height * radius) side < most_tangent + 1 = (div-lt_iff_lt-mul {k = 2 * side} (omega arith)).1 (omega arith) in
    omega arith

module _ (e : ℕ) (o : e ≤ epicycles) where
  both_weigh : (x : ℕ) → x ≤ quarter → weigh (height_of e x) (base_of e x) < (2 * most_tangent + 1) * radius
  unfolding height_of base_of half_up
  both_weigh x h = omega (arith, mul-le-mul_left e (weight_le x h))

  pub near_le : (x : ℕ) → x ≤ quarter → near_of e x ≤ most_tangent
  unfolding near_of
  near_le x h = let b = base_le e o x h in let w = both_weigh x h in reach (height_of e x) (radius - base_of e x) (omega arith) (omega arith)

  pub far_le : (x : ℕ) → x ≤ quarter → far_of e x ≤ most_tangent
  unfolding far_of
  far_le x h = let a = height_le e o x h in reach (height_of e x) (radius + base_of e x) (omega arith) (omega arith)

  pub tangent_le : (u : ℕ) → u ≤ half → tangent_of e u ≤ most_tangent
  unfolding tangent_of
  tangent_le u h = go (dec_le u quarter)
    where
      go : Dec (u ≤ quarter) → tangent_of e u ≤ most_tangent
      go (yes l) = rw (le-leb _ _ l) (near_le u l)
      go (no l) = let g : quarter < u = omega arith in rw (lt-leb _ _ g) (far_le (half - u) (omega arith))
