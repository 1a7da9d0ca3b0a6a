-- An array that a closure makes, an element for each index in turn, is the closure's answers in order. Assumes nothing.
use mathlib.Core.List.{List, map}
use mathlib.Core.Path.{◌≡◌, ap, ◌∙◌, subst}
use Prim.Native.Nat.{ℕ, zero, suc, ◌+◌, ◌≤◌, ◌<◌}
use native.Mathlib.Decide.{dec_lt}
use native.Mathlib.Omega.{arith}
use denote.Param.Members.{Mut}
use lib.ListN.{get_or}
use Rattle.std.specs.Array.{IsFromFnResult, IsFromFnResultFrom}
use Rattle.std.specs.Fn.{Called}
use Rattle.reasoning.specs.InOrder.{in_order}
use Rattle.reasoning.proofs.InOrder.{filled_all}
use Rattle.book.proofs.WholeBooks.{by_dec}

-- g is what the closure's calls do; each leaves it as it was, and answers what h gives there, as see reads it
module _ {F A B : Type 0} (g : Mut F (ℕ × Unit {0}) A) (f : F) (see : A → B) (h : ℕ → B) (n : ℕ)
    (each : (i : ℕ) (y : A) (q : F) → i < n → Called g f (i, tt) y q → (q ≡ f) × (see y ≡ h i)) where
  made_at : (ys : List A) (left i k : ℕ) (d : A) → i + left ≤ n → IsFromFnResultFrom g f ys i left → i ≤ k → k < i + left → see (get_or ys k d) ≡ h k
  made_at ys zero i k d m w l r = absurd (omega arith)
  made_at ys (suc left) i k d m w l r =
      let one = each i w.1 w.0 (omega arith) w.3 in
      by_dec (dec_lt i k) (λ s. made_at ys left (i + 1) k d (omega arith) (subst (λ q. IsFromFnResultFrom g q ys (i + 1) left) one.0 w.4) (omega arith) (omega arith))
      (λ s. let e : k ≡ i = omega arith in rw e (ap see (w.2.1 d) ∙ one.1))

  pub made_in_order : (ys : List A) (d : A) → IsFromFnResult g f ys n → map see ys ≡ in_order h n
  made_in_order ys d w = filled_all see h d ys n w.long (record { at = λ k l. made_at ys n 0 k d (omega arith) w.each (omega arith) (omega arith) })
