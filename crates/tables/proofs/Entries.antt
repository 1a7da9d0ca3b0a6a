-- An entry that is read from a table is the definition's. Assumes nothing.
use mathlib.Core.List.{List}
use mathlib.Core.Path.{◌≡◌, ap}
use Prim.Native.Nat.{ℕ}
use lib.ListN.{get_or}
use Rattle.law.specs.Sines.{sines}
use Rattle.law.specs.Tangents.{tangents}
use Rattle.law.specs.Entry.{sine_entry, tangent_entry}

pub sine_read : {s : List ℕ} → s ≡ sines → (k : ℕ) → get_or s k 0 ≡ sine_entry k
unfolding sine_entry
sine_read e k = ap (λ (l : List ℕ). get_or l k 0) e

pub tangent_read : {t : List ℕ} → t ≡ tangents → (m : ℕ) → get_or t m 0 ≡ tangent_entry m
unfolding tangent_entry
tangent_read e m = ap (λ (l : List ℕ). get_or l m 0) e
