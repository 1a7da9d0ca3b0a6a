-- A text that is put into a buffer: what is before it and after it stays. Assumes nothing.
use mathlib.Core.Path.{◌≡◌}
use mathlib.Core.List.{List}
use Prim.Native.Nat.{ℕ, ◌+◌, ◌-◌, ◌≤◌}
use native.Mathlib.Omega.{arith}
use lib.ListN.{length}
use borrow.Rule.Slice.PartMut.{put_mid}
use Rattle.std.proofs.lemmas.Slice.{take-put_mid, drop-put_mid}
use Rattle.request.specs.Texts.{Puts}

pub puts : (text out : List ℕ) (at n : ℕ) → length text ≡ n → n ≤ 32 → at + 32 ≤ length out
    → Puts text at out (put_mid at (at + n - at) out text) (at + n)
puts text out at n l h g = record {
  first = take-put_mid at (at + n - at) out text (at + n) (omega (arith, l)) (omega (arith, g));
  end = omega (arith, l);
  most = omega (arith, l, h);
  rest = drop-put_mid at (at + n - at) out text (at + n) (omega arith) (omega (arith, g)) (omega (arith, l));
}
