-- Turn after turn, what is written and what the rest of the input makes of the open line are document 01's output of the whole input.
-- Assumes nothing.
use borrow.Author.Tests.{le-ltb}
use Rattle.std.proofs.Common.{◌≡◌, refl, sym, ap, ◌∙◌, subst, ℕ, ◌*◌, ◌/◌, ◌≤◌, List, [], ◌∷◌, ◌++◌, append_assoc, append-nil, length, take, arith, Option, None, Some, IfSome}
use Rattle.std.proofs.lemmas.List.{take_all}
use Rattle.std.specs.Io.KnownBytes.{Appends, Consumes, IsAtEnd}
use Rattle.std.proofs.KnownBytes.{Appends-nil, Appends-trans, Consumes-nil, Consumes-trans}
use Rattle.law.specs.Request.{output}
use Rattle.request.specs.declared.line.Line.{Line}
use Rattle.request.specs.declared.line.Line.TheVariants.{Empty}
use Rattle.request.specs.declared.answers.Fed.{Fed}
use Rattle.request.specs.Stream.{state_after, text_after, closing, closing_in, fitting_block, Feeds, Ends}
use Rattle.request.proofs.InBlocks.{joined, written, in_blocks}

-- these bytes were taken and this text was written, whatever the blocks of the rest
pub record Answered (input left held held' : Option (List ℕ)) (line : Line) : Type 0 where
  pub taken : List ℕ
  pub consumed : Consumes input left taken
  pub text : List ℕ
  pub wrote : Appends held held' text
  pub whole : (rest : List (List ℕ)) → text ++ written line rest ≡ output (taken ++ joined rest)

pub begun : (input held : Option (List ℕ)) → Answered input input held held Empty
begun input held = record { taken = []; consumed = Consumes-nil input; text = []; wrote = Appends-nil held; whole = in_blocks }

goes_on : (text taken block : List ℕ) (line next : Line) → next ≡ state_after line block
    → ((rest : List (List ℕ)) → text ++ written line rest ≡ output (taken ++ joined rest))
    → (rest : List (List ℕ)) → (text ++ text_after line block) ++ written next rest ≡ output ((taken ++ block) ++ joined rest)
unfolding written joined
goes_on text taken block line next e whole rest =
    append_assoc text (text_after line block) (written next rest)
    ∙ (ap (λ (l : Line). text ++ (text_after line block ++ written l rest)) e
    ∙ (whole (block ∷ rest) ∙ ap output (sym (append_assoc taken block (joined rest)))))

pub turned : {input left left' held held' held'' : Option (List ℕ)} {line : Line} {answers answers' : List ℕ} {fed : Fed} (block : List ℕ)
    → Feeds line (fitting_block block answers) answers answers' fed → 32 * length block ≤ length answers → Consumes left left' block
    → Appends held' held'' (take fed.written answers') → Answered input left held held' line → Answered input left' held held'' fed.line
turned {input = input} {left = left} {left' = left'} {held = held} {held' = held'} {held'' = held''} {line = line} {answers = answers} {answers' = answers'} {fed = fed} block f room c w a =
    let fitting : fitting_block block answers ≡ block = take_all (length answers / 32) block (omega (arith, room)) in
    let text : take fed.written answers' ≡ text_after line block = f.text ∙ ap (text_after line) fitting in
    record {
      taken = a.taken ++ block;
      consumed = Consumes-trans input left left' a.taken block a.consumed c;
      text = a.text ++ text_after line block;
      wrote = Appends-trans held held' held'' a.text (text_after line block) a.wrote (subst (Appends held' held'') text w);
      whole = goes_on a.text a.taken block line fed.line (f.next ∙ ap (state_after line) fitting) a.whole;
    }

all_taken : (left left' : Option (List ℕ)) (bytes taken : List ℕ) → Consumes (Some bytes) left taken → Consumes left left' [] → IsAtEnd left' → bytes ≡ taken
all_taken None left' bytes taken p c end = absurd p
all_taken (Some xs) None bytes taken p c end = absurd c
all_taken (Some xs) (Some ys) bytes taken p c end = p ∙ (ap (λ (rest : List ℕ). taken ++ rest) (c ∙ end) ∙ append-nil taken)

at_end : (input left left' held held' held'' : Option (List ℕ)) (line : Line) → Answered input left held held' line
    → Consumes left left' [] → IsAtEnd left' → Appends held' held'' (closing line) → IfSome input (λ bytes. Appends held held'' (output bytes))
unfolding written joined
at_end None left left' held held' held'' line a c end w = tt
at_end (Some bytes) left left' held held' held'' line a c end w =
    let all : bytes ≡ a.taken = all_taken left left' bytes a.taken a.consumed c end in
    let text : a.text ++ closing line ≡ output bytes = a.whole [] ∙ ap output (append-nil a.taken ∙ sym all) in
    subst (Appends held held'') text (Appends-trans held held' held'' a.text (closing line) a.wrote w)

pub ended : {input left held held' : Option (List ℕ)} (left' held'' : Option (List ℕ)) {line : Line} {answers answers' : List ℕ} {n : ℕ}
    → Ends (closing_in line answers) answers answers' n → 32 ≤ length answers → Consumes left left' [] → IsAtEnd left'
    → Answered input left held held' line → Appends held' held'' (take n answers') → IfSome input (λ bytes. Appends held held'' (output bytes))
ended {input = input} {left = left} {held = held} {held' = held'} left' held'' {line = line} {answers = answers} {answers' = answers'} {n = n} f room c end a w =
    let text : take n answers' ≡ closing line = f.first ∙ rw (le-ltb (length answers) 32 room) refl in
    at_end input left left' held held' held'' line a c end (subst (Appends held' held'') text w)
