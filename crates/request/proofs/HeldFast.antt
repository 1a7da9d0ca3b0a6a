-- Each public function's promise holds its answer fast, and what a lent buffer holds afterwards. Assumes nothing.
use mathlib.Core.Path.{◌≡◌, refl, ap, ap₂, sym, ◌∙◌}
use mathlib.Core.List.{List, ◌++◌}
use Prim.Native.Nat.{ℕ}
use borrow.Fn.Enter.{pair≡}
use lib.ListN.{length, take, drop, take-append-drop}
use Rattle.reasoning.proofs.HeldFast.{Held, by_facts, one, one_said}
use Rattle.units.proofs.HeldFast.{answer_of, answer_back, one_answer}
use Rattle.request.specs.declared.line.Line.{Line}
use Rattle.request.specs.declared.answers.Fed.{Fed}
use Rattle.request.specs.declared.first.First.{First}
use Rattle.request.specs.declared.first.First.TheVariants.{Asked, Open}
use Rattle.request.specs.Stream.{Counted, text_after, Feeds, Ends}
use Rattle.request.specs.First.{Reached, asks, still, said_first}
use Rattle.request.specs.contracts.line.line_step as line_step
use Rattle.request.specs.contracts.line.line_end as line-end
use Rattle.request.specs.contracts.line.asked_by as asked_by
use Rattle.request.specs.contracts.first.first_line as first-line
use Rattle.request.specs.contracts.answers.feed as feed
use Rattle.request.specs.contracts.answers.finish as finish

-- a buffer whose first bytes are the text, and whose others are as they were
one_buffer : (out o o' text : List ℕ) (n m : ℕ) → take n o ≡ text → Counted n o → drop n o ≡ drop n out → take m o' ≡ text → Counted m o'
    → drop m o' ≡ drop m out → (n ≡ m) × (o ≡ o')
one_buffer out o o' text n m p c d p' c' d' =
    let e : n ≡ m = c.1 ∙ (ap length (one p p') ∙ sym c'.1) in
    let rest : drop n o ≡ drop m o' = d ∙ (ap (λ (k : ℕ). drop k out) e ∙ sym d') in
    (e, sym (take-append-drop n o) ∙ (ap₂ (λ (x y : List ℕ). x ++ y) (one p p') rest ∙ take-append-drop m o'))

one_fed : {line : Line} {block out o o' : List ℕ} {r r' : Fed} → Feeds line block out o r → Feeds line block out o' r' → (r ≡ r') × (o ≡ o')
one_fed {line} {block} {out} {o} {o'} {r} {r'} f g =
    let b = one_buffer out o o' (text_after line block) r.written r'.written f.text f.counts f.rest g.text g.counts g.rest in (
      ap₂ (λ (m : Line) (n : ℕ). record { line = m; written = n; taken = r.taken }) (one f.next g.next) b.0
          ∙ ap (λ (n : ℕ). record { line = r'.line; written = r'.written; taken = n }) (one f.all g.all),
      b.1,
    )

one_end : {text out o o' : List ℕ} {n m : ℕ} → Ends text out o n → Ends text out o' m → (n ≡ m) × (o ≡ o')
one_end {text} {out} {o} {o'} {n} {m} f g =
    one_buffer out o o' text n m f.first f.counts f.rest g.first g.counts g.rest

-- the reading of a first line can be taken back
first_from : Reached → First
first_from (asks asked) = Asked (answer_of (λ z. z) asked)
first_from (still line) = Open line

first_back : (first : First) → first_from (said_first first) ≡ first
unfolding first_from
first_back (Asked asked) = ap Asked (answer_back (λ z. z) (λ z. z) (λ z. refl) asked)
first_back (Open line) = refl

-- ---- the functions

pub line_step_held : Held line_step.ended (λ M 𝓤. line_step.clauses {M = M} {𝓤 = 𝓤})
line_step_held M 𝓤 𝓛 mem run κs a = by_facts 𝓤 (λ z z' w w' p q. (one p q, refl))

pub line_end_held : Held line-end.ended (λ M 𝓤. line-end.clauses {M = M} {𝓤 = 𝓤})
line_end_held M 𝓤 𝓛 mem run κs a = by_facts 𝓤 (λ z z' w w' p q. (one_answer (λ z. z) (λ z. z) (λ z. refl) p q, refl))

pub asked_by_held : Held asked_by.ended (λ M 𝓤. asked_by.clauses {M = M} {𝓤 = 𝓤})
asked_by_held M 𝓤 𝓛 mem run κs a = by_facts 𝓤 (λ z z' w w' p q. (one_answer (λ z. z) (λ z. z) (λ z. refl) p q, refl))

pub first_line_held : Held first-line.ended (λ M 𝓤. first-line.clauses {M = M} {𝓤 = 𝓤})
first_line_held M 𝓤 𝓛 mem run κs a = by_facts 𝓤 (λ z z' w w' p q. (one_said said_first first_from first_back p q, refl))

pub feed_held : Held feed.ended (λ M 𝓤. feed.clauses {M = M} {𝓤 = 𝓤})
feed_held M 𝓤 𝓛 mem run κs a = by_facts 𝓤 (λ z z' w w' p q. let e = one_fed p q in (e.0, pair≡ refl (pair≡ refl (pair≡ e.1 refl))))

pub finish_held : Held finish.ended (λ M 𝓤. finish.clauses {M = M} {𝓤 = 𝓤})
finish_held M 𝓤 𝓛 mem run κs a = by_facts 𝓤 (λ z z' w w' p q. let e = one_end p q in (e.0, pair≡ refl (pair≡ e.1 refl)))
