-- A block taken byte by byte: what holds once i bytes of it have been taken. Assumes nothing.
use mathlib.Core.Path.{◌≡◌, refl, sym, ap, ◌∙◌}
use mathlib.Core.List.{List, [], ◌++◌, append_assoc, append-nil}
use Prim.Native.Nat.{ℕ, ◌+◌, ◌-◌, ◌*◌, ◌≤◌, ◌<◌}
use native.Mathlib.Numerals.{add-one}
use native.Mathlib.Omega.{arith}
use lib.ListN.{length, take, drop, get_or, drop_of_length-le}
use lib.Seq.{drop-cons, drop-drop, length-take-le}
use Rattle.request.specs.declared.line.Line.{Line}
use Rattle.request.specs.declared.answers.Fed.{Fed}
use Rattle.request.specs.Stream.{next_line, byte_text, state_after, text_after, Took, Feeds}

pub record Feeding (line : Line) (block out₀ out : List ℕ) (fed : Fed) (i : ℕ) : Type 0 where
  pub state : state_after line block ≡ state_after fed.line (drop i block)
  pub text : text_after line block ≡ take fed.written out ++ text_after fed.line (drop i block)
  pub most : fed.written ≤ 32 * fed.taken
  pub count : fed.taken ≡ i
  pub rest : drop fed.written out ≡ drop fed.written out₀

-- what two lists share from a place on, they share from a later one on
later : (m n : ℕ) (a b : List ℕ) → m ≤ n → drop m a ≡ drop m b → drop n a ≡ drop n b
later m n a b h e =
    let k : m + (n - m) ≡ n = omega arith in
    ap (λ (j : ℕ). drop j a) (sym k)
    ∙ (sym (drop-drop (n - m) m a) ∙ (ap (drop (n - m)) e ∙ (drop-drop (n - m) m b ∙ ap (λ (j : ℕ). drop j b) k)))

state_one : (line : Line) (block : List ℕ) (i : ℕ) → i < length block
    → state_after line (drop i block) ≡ state_after (next_line line (get_or block i 0)) (drop (i + 1) block)
unfolding state_after
state_one line block i h = rw (add-one, drop-cons block i 0) refl

text_one : (line : Line) (block : List ℕ) (i : ℕ) → i < length block
    → text_after line (drop i block) ≡ byte_text line (get_or block i 0) ++ text_after (next_line line (get_or block i 0)) (drop (i + 1) block)
unfolding text_after
text_one line block i h = rw (add-one, drop-cons block i 0) refl

pub begun : (line : Line) (block out : List ℕ) → Feeding line block out out (record { line = line; written = 0; taken = 0 }) 0
begun line block out = record { state = refl; text = refl; most = omega arith; count = refl; rest = refl }

pub one_fed : {line : Line} {block out₀ out out' : List ℕ} {fed next : Fed} {i : ℕ} → Feeding line block out₀ out fed i → i < length block
    → Took fed (get_or block i 0) out out' next → Feeding line block out₀ out' next (i + 1)
one_fed {line} {block} {out₀} {out} {out'} {fed} {next} {i} f h t =
    let left = drop (i + 1) block in
    let b = get_or block i 0 in
    record {
      state = f.state ∙ (state_one fed.line block i h ∙ ap (λ (m : Line). state_after m left) (sym t.next));
      text =
          f.text
          ∙ (ap (λ (x : List ℕ). take fed.written out ++ x) (text_one fed.line block i h)
          ∙ (sym (append_assoc (take fed.written out) (byte_text fed.line b) (text_after (next_line fed.line b) left))
          ∙ (ap (λ (x : List ℕ). x ++ text_after (next_line fed.line b) left) (sym t.text)
          ∙ ap (λ (m : Line). take next.written out' ++ text_after m left) (sym t.next))));
      most = t.most;
      count = omega (arith, t.one, f.count);
      rest = t.rest ∙ later fed.written next.written out out₀ t.least f.rest;
    }

pub all_fed : {line : Line} {block out₀ out : List ℕ} {fed : Fed} {i : ℕ} → Feeding line block out₀ out fed i → i ≡ length block
    → 32 * length block ≤ length out → Feeds line block out₀ out fed
unfolding state_after text_after
all_fed {line} {block} {out₀} {out} {fed} {i} f e h =
    let g : length block ≤ i = omega arith in
    let d : drop i block ≡ [] = drop_of_length-le block g in
    let m : fed.written ≤ length out = omega (arith, f.most, f.count) in
    record {
      next = sym (f.state ∙ ap (state_after fed.line) d);
      text = sym (f.text ∙ (ap (λ (x : List ℕ). take fed.written out ++ text_after fed.line x) d ∙ append-nil (take fed.written out)));
      counts = (m, sym (length-take-le fed.written out m));
      rest = f.rest;
      all = f.count ∙ e;
    }
