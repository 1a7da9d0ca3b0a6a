-- An entry of a table by its seat; 0 past the table's end. Assumes nothing.
use Rattle.std.specs.Prelude.{ℕ, get_or}
use Rattle.law.specs.Sines.{sines}
use Rattle.law.specs.Tangents.{tangents}

-- the last seat of each table: 90° in steps of 10′, and 130′
abbrev pub last_sine : ℕ
last_sine = 540

abbrev pub last_tangent : ℕ
last_tangent = 130

-- the sine at k × 10′
unfoldable pub sine_entry : ℕ → ℕ
sine_entry k = get_or sines k 0

-- the tangent at m minutes
unfoldable pub tangent_entry : ℕ → ℕ
tangent_entry m = get_or tangents m 0
