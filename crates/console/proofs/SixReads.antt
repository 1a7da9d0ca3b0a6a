-- Each read adds a byte to a line that stays open, and such a line has at most five: so six reads settle it. Assumes nothing.
use mathlib.Core.Path.{◌≡◌, sym}
use mathlib.Core.List.{List}
use Prim.Native.Nat.{ℕ, ◌+◌, ◌≤◌}
use native.Mathlib.Omega.{arith}
use lib.ListN.{length}
use Rattle.request.specs.declared.line.Line.{Line}
use Rattle.request.specs.First.{still, first_after}
use Rattle.request.proofs.OpenLine.{bytes_so_far, still_open}

-- a line that is still open after so many reads has at least so many bytes, and at most a year's five
abbrev pub AtLeast : ℕ → Line → Type 0
AtLeast k line = (k ≤ bytes_so_far line) × (bytes_so_far line ≤ 5)

pub goes_on : (line longer : Line) (block : List ℕ) → still longer ≡ first_after line block → 1 ≤ length block → (k : ℕ) → AtLeast k line → AtLeast (k + 1) longer
goes_on line longer block s h k r =
    let longer-by = still_open line block longer r.1 (sym s) in (omega (arith, r.0, longer-by.0), longer-by.1)

pub settled : (line : Line) → AtLeast 6 line → ⊥
settled line r = omega (arith, r.0, r.1)
