-- Answers held fast: any two results that one promise allows are equal, and so is what each lent `&mut` holds afterwards; and the
-- promise asks nothing of its caller. Stated on the contract that a function really has, its generated clauses: a weaker `ensures` or
-- a `requires` no longer proves it. Assumes nothing.
use mathlib.Core.Path.{◌≡◌, ◌∙◌, sym, ap}
use seplogic.Ra.Ura.{Ura}
use base.Logic.{SProp, ent, emp, id⊢}
use prog.Memory.{Memory}
use prog.Routine.{Routine}
use types.Logic.{Logic}
use contract.Lifetimes.{Lfts}
use contract.Monad.{Fun, conj, conj_l, conj_r, fact, fact_use, fact_i}
use denote.Triple.Entry.{Args, Res}
use denote.Triple.Clauses.{Ended, Clauses, Lasts, at_exit}

-- a contract as it is generated: at every model of the logic
abbrev pub Contract : Ended → Type 2
Contract T = (M : Type 1) (𝓤 : Ura M) (𝓛 : Logic 𝓤) → (Memory → SProp 𝓤) → (Routine → Fun 𝓤) → Clauses 𝓤 T

-- nothing is asked of a caller: what is required, at some ghost value, follows from nothing
abbrev pub Unasked : {M : Type 1} (𝓤 : Ura M) {G : Type 0} → (G → SProp 𝓤) → Type 1
Unasked 𝓤 {G} requires = (g : G) × ent 𝓤 (emp 𝓤) (requires g)

-- so for every argument; z and z' are two results, compared as `see` shows them, w and w' what the `&mut` parameters hold afterwards
abbrev pub Seen : (T : Ended) (View : Lfts T.signature.lifetimes → Type 0)
    → ((κs : Lfts T.signature.lifetimes) → Res T.signature κs → View κs) → Contract T → Type 2
Seen T View see clauses =
    (M : Type 1) (𝓤 : Ura M) (𝓛 : Logic 𝓤) (mem : Memory → SProp 𝓤) (run : Routine → Fun 𝓤)
    (κs : Lfts T.signature.lifetimes) (a : Args T.signature κs) → Unasked 𝓤 (clauses M 𝓤 𝓛 mem run κs a).requires
    × ((z z' : Res T.signature κs) (w w' : Lasts T κs a) (g g' : (clauses M 𝓤 𝓛 mem run κs a).ghost)
    → ent 𝓤
    (conj 𝓤 ((clauses M 𝓤 𝓛 mem run κs a).ensures g z (at_exit T κs a w)) ((clauses M 𝓤 𝓛 mem run κs a).ensures g' z' (at_exit T κs a w')))
    (fact 𝓤 ((see κs z ≡ see κs z') × (w ≡ w'))))

-- the result itself; a part of a lent slice is seen as its list
abbrev pub Held : (T : Ended) → Contract T → Type 2
Held T clauses = Seen T (λ κs. Res T.signature κs) (λ κs z. z) clauses

-- two facts give a third
third : {M : Type 1} (𝓤 : Ura M) {P Q R : Type 0} → (P → Q → R) → ent 𝓤 (conj 𝓤 (fact 𝓤 P) (fact 𝓤 Q)) (fact 𝓤 R)
third 𝓤 {P = P} {Q = Q} {R = R} f =
    fact_use 𝓤 P (conj_l 𝓤 (fact 𝓤 P) (fact 𝓤 Q))
    (λ p. fact_use 𝓤 Q (conj_r 𝓤 (fact 𝓤 P) (fact 𝓤 Q)) (λ q. fact_i 𝓤 R (conj 𝓤 (fact 𝓤 P) (fact 𝓤 Q)) (f p q)))

-- a promise with no `requires`, whose `ensures` is a fact, P of the result and of what is held afterwards
pub by_facts : {M : Type 1} (𝓤 : Ura M) {Z W : Type 0} {P : Z → W → Type 0} {R : Z → Z → W → W → Type 0}
    → ((z z' : Z) (w w' : W) → P z w → P z' w' → R z z' w w') → Unasked 𝓤 (λ (g : Unit {0}). emp 𝓤)
    × ((z z' : Z) (w w' : W) (g g' : Unit {0}) → ent 𝓤 (conj 𝓤 (fact 𝓤 (P z w)) (fact 𝓤 (P z' w'))) (fact 𝓤 (R z z' w w')))
by_facts 𝓤 f = ((tt, id⊢ 𝓤 (emp 𝓤)), λ z z' w w' g g'. third 𝓤 (f z z' w w'))

-- two that are equal to one are one
pub one : {A : Type 0} {s x y : A} → x ≡ s → y ≡ s → x ≡ y
one p q = p ∙ sym q

-- a reading of answers that can be taken back is the same of two answers only where they are one
pub one_said : {A B : Type 0} (said : A → B) (back : B → A) → ((x : A) → back (said x) ≡ x) → {s : B} {x y : A} → said x ≡ s → said y ≡ s → x ≡ y
one_said said back h {s} {x} {y} p q = sym (h x) ∙ (ap back (one p q) ∙ h y)
