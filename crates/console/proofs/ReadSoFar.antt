-- Each read takes the reading of a first line a byte further: what was taken is of that line, and what is asked stays what document 01
-- says of the whole input. Assumes nothing.
use Rattle.std.proofs.Common.{◌≡◌, refl, sym, ap, ◌∙◌, subst, ℕ, ℤ, ◌+◌, ◌-◌, ◌<◌, ◌≤◌, List, [], ◌∷◌, ◌++◌, append-nil, length, length-append, take, Option, None, Some, IfSome, All, eqb, arith}
use Rattle.std.proofs.Math.Seq.{take-append_seam}
use Rattle.std.proofs.lemmas.Bool.{eqb-false}
use Rattle.std.proofs.lemmas.List.Elements.{All-append, All-cons, All-nil, All-take}
use Rattle.std.specs.Io.{StopsAt}
use Rattle.std.specs.Prelude.{Ok}
use Rattle.std.specs.Io.KnownBytes.{Consumes, IsAtEnd}
use Rattle.std.proofs.KnownBytes.{Consumes-nil, Consumes-trans}
use Rattle.reasoning.specs.Answer.{Answer, refused}
use Rattle.law.specs.Request.{newline, first_asks}
use Rattle.request.specs.declared.line.Line.{Line}
use Rattle.request.specs.declared.line.Line.TheVariants.{Empty, Digits, NoYear}
use Rattle.request.specs.Reading.{line_step, line_end}
use Rattle.request.specs.First.{Reached, asks, still, first_after}
use Rattle.request.proofs.ReadLine.{by_case}
use Rattle.request.proofs.InBlocks.{joined}
use Rattle.request.proofs.FirstLine.{or_else, asked_over, first_in_blocks}
use Rattle.request.proofs.OpenLine.{bytes_so_far, still_open}
use Rattle.console.specs.FirstLine.{NoNewline, TakesOfLine}
use Rattle.console.proofs.SixReads.{goes_on}

-- ---- what is asked

-- asks and still are two answers
asked_or_open : {answer : Answer ℤ} {line : Line} → asks answer ≡ still line → ⊥
asked_or_open e = cc

none_asks : (bs : List ℕ) → or_else (first_after NoYear bs) line_end ≡ refused 11
unfolding first_after
none_asks [] = refl
none_asks (b ∷ bs) = by_case (eqb b 10) (λ e. rw e refl) (λ e. rw e (none_asks bs))

-- a block and what follows it, as one
in_two : (line : Line) (x y : List ℕ) → or_else (first_after line x) (λ next. or_else (first_after next y) line_end) ≡ or_else (first_after line (x ++ y)) line_end
unfolding first_after
in_two Empty [] y = refl
in_two (Digits minus count size) [] y = refl
in_two NoYear [] y = sym (none_asks y)
in_two line (b ∷ x) y = by_case (eqb b 10) (λ e. rw e refl) (λ e. rw e (in_two (line_step line b) x y))

after_block : (line : Line) (x y : List ℕ) → or_else (first_after line x) (λ next. asked_over next (y ∷ [])) ≡ asked_over line ((x ++ y) ∷ [])
unfolding asked_over
after_block line x y = in_two line x y

at_end : (line : Line) → asked_over line ([] ∷ []) ≡ line_end line
unfolding asked_over first_after
at_end Empty = refl
at_end (Digits minus count size) = refl
at_end NoYear = refl

whole : (bytes : List ℕ) → asked_over Empty (bytes ∷ []) ≡ first_asks bytes
unfolding joined
whole bytes = first_in_blocks (bytes ∷ []) ∙ ap first_asks (append-nil bytes)

-- ---- what was taken

-- a line that is still open after a block had no newline in it
no_newline : (line : Line) (block : List ℕ) (longer : Line) → first_after line block ≡ still longer → All NoNewline block
unfolding first_after
no_newline line [] longer e = All-nil NoNewline
no_newline line (b ∷ bs) longer e =
    by_case (eqb b 10) (λ n. let h : first_after line (b ∷ bs) ≡ asks (line_end line) = rw n refl in absurd (asked_or_open (sym h ∙ e)))
    (λ n.
    let h : first_after line (b ∷ bs) ≡ first_after (line_step line b) bs = rw n refl in
    All-cons NoNewline b bs (eqb-false b 10 n) (no_newline (line_step line b) bs longer (sym h ∙ e)))

-- a byte at most after bytes without a newline
stops : (taken block : List ℕ) → length block ≤ 1 → All NoNewline taken → StopsAt (taken ++ block) newline
stops taken [] h all = All-take NoNewline (length (taken ++ []) - 1) (taken ++ []) (subst (All NoNewline) (sym (append-nil taken)) all)
stops taken (b ∷ []) h all =
    let n : length (taken ++ (b ∷ [])) - 1 ≡ length taken = rw (length-append taken (b ∷ [])) (omega arith) in
    let t : take (length (taken ++ (b ∷ [])) - 1) (taken ++ (b ∷ [])) ≡ taken = rw n (take-append_seam taken (b ∷ [])) in
    subst (All NoNewline) (sym t) all
stops taken (b ∷ c ∷ bs) h all = absurd (omega (arith, h))

-- ---- while the line is open

-- after so many reads, each of a byte at least, what was taken of an input is the line so far, and what the rest makes of it is what
-- document 01 says of the whole input
pub record ReadSoFar (reads : ℕ) (input left : Option (List ℕ)) (line : Line) : Type 0 where
  pub taken : List ℕ
  pub consumed : Consumes input left taken
  pub count : length taken ≡ bytes_so_far line
  pub each : reads ≤ bytes_so_far line
  pub most : bytes_so_far line ≤ 5
  pub within : All NoNewline taken
  pub asked : IfSome input (λ bytes. IfSome left (λ rest. asked_over line (rest ∷ []) ≡ first_asks bytes))

unread_asks : (input : Option (List ℕ)) → IfSome input (λ bytes. IfSome input (λ rest. asked_over Empty (rest ∷ []) ≡ first_asks bytes))
unread_asks None = tt
unread_asks (Some bytes) = whole bytes

pub unread : (input : Option (List ℕ)) → ReadSoFar 0 input input Empty
unread input =
    record { taken = []; consumed = Consumes-nil input; count = refl; each = omega arith; most = omega arith; within = All-nil NoNewline; asked = unread_asks input }

-- a read of a byte or more, which leaves the line open
opens : (input left now : Option (List ℕ)) (taken block : List ℕ) (line longer : Line) → Consumes input left taken → Consumes left now block
    → still longer ≡ first_after line block → IfSome input (λ bytes. IfSome left (λ rest. asked_over line (rest ∷ []) ≡ first_asks bytes))
    → IfSome input (λ bytes. IfSome now (λ rest. asked_over longer (rest ∷ []) ≡ first_asks bytes))
opens None left now taken block line longer p c e h = tt
opens (Some bytes) None now taken block line longer p c e h = absurd p
opens (Some bytes) (Some xs) None taken block line longer p c e h = tt
opens (Some bytes) (Some xs) (Some ys) taken block line longer p c e h =
    ap (λ (r : Reached). or_else r (λ next. asked_over next (ys ∷ []))) e
    ∙ (after_block line block ys ∙ subst (λ (rest : List ℕ). asked_over line (rest ∷ []) ≡ first_asks bytes) c h)

pub read_opens : {reads : ℕ} {input left now : Option (List ℕ)} {line longer : Line} (block : List ℕ) → still longer ≡ first_after line block
    → 1 ≤ length block → Consumes left now block → ReadSoFar reads input left line → ReadSoFar (reads + 1) input now longer
read_opens {reads = reads} {input = input} {left = left} {now = now} {line = line} {longer = longer} block e h c r =
    let by = still_open line block longer r.most (sym e) in
    let more = goes_on line longer block e h reads (r.each, r.most) in
    record {
      taken = r.taken ++ block;
      consumed = Consumes-trans input left now _ _ r.consumed c;
      count = rw (length-append r.taken block) (omega (arith, r.count, by.0));
      each = more.0;
      most = more.1;
      within = All-append NoNewline r.taken block r.within (no_newline line block longer (sym e));
      asked = opens input left now r.taken block line longer r.consumed c e r.asked;
    }

-- ---- once it is settled

settles : (input left now : Option (List ℕ)) (taken block : List ℕ) (line : Line) (answer : Answer ℤ) → Consumes input left taken → Consumes left now block
    → asks answer ≡ first_after line block → IfSome input (λ bytes. IfSome left (λ rest. asked_over line (rest ∷ []) ≡ first_asks bytes))
    → IfSome input (λ bytes. answer ≡ first_asks bytes)
settles None left now taken block line answer p c e h = tt
settles (Some bytes) None now taken block line answer p c e h = absurd p
settles (Some bytes) (Some xs) None taken block line answer p c e h = absurd c
settles (Some bytes) (Some xs) (Some ys) taken block line answer p c e h =
    ap (λ (r : Reached). or_else r (λ next. asked_over next (ys ∷ []))) e
    ∙ (after_block line block ys ∙ subst (λ (rest : List ℕ). asked_over line (rest ∷ []) ≡ first_asks bytes) c h)

pub read_settles : {reads : ℕ} {input left : Option (List ℕ)} (now : Option (List ℕ)) {line : Line} {answer : Answer ℤ} (block : List ℕ) → asks answer ≡ first_after line block
    → Consumes left now block → ReadSoFar reads input left line → IfSome input (λ bytes. answer ≡ first_asks bytes)
read_settles {input = input} {left = left} now {line = line} {answer = answer} block e c r =
    settles input left now r.taken block line answer r.consumed c e r.asked

-- the end of the input ends the line
ends : (input left now : Option (List ℕ)) (taken : List ℕ) (line : Line) → Consumes input left taken → Consumes left now [] → IsAtEnd now
    → IfSome input (λ bytes. IfSome left (λ rest. asked_over line (rest ∷ []) ≡ first_asks bytes)) → IfSome input (λ bytes. line_end line ≡ first_asks bytes)
ends None left now taken line p c end h = tt
ends (Some bytes) None now taken line p c end h = absurd p
ends (Some bytes) (Some xs) None taken line p c end h = absurd c
ends (Some bytes) (Some xs) (Some ys) taken line p c end h =
    sym (at_end line) ∙ (ap (λ (rest : List ℕ). asked_over line (rest ∷ [])) (sym (c ∙ end)) ∙ h)

pub read_ends : {reads : ℕ} {input left : Option (List ℕ)} (now : Option (List ℕ)) {line : Line} {answer : Answer ℤ} (n : ℕ) (block : List ℕ) → answer ≡ line_end line → n ≡ 0
    → Consumes left now (take n block) → (n ≡ 0 → 0 < length block → IsAtEnd now) → 0 < length block → ReadSoFar reads input left line
    → IfSome input (λ bytes. answer ≡ first_asks bytes)
read_ends {input = input} {left = left} now {line = line} n block e z c end room r =
    let none : Consumes left now [] = subst (λ (m : ℕ). Consumes left now (take m block)) z c in
    subst (λ (a : Answer ℤ). IfSome input (λ bytes. a ≡ first_asks bytes)) (sym e) (ends input left now r.taken line r.consumed none (end z room) r.asked)

-- ---- what was taken

pub takes_line : {A E : Type 0} {reads : ℕ} {input left now : Option (List ℕ)} {line : Line} {answer : Answer ℤ} (asked : A) (block : List ℕ)
    → asks answer ≡ first_after line block → length block ≤ 1 → Consumes left now block → ReadSoFar reads input left line → TakesOfLine {E = E} input now (Ok asked)
takes_line {input = input} {left = left} {now = now} asked block e h c r = record {
  taken = r.taken ++ block;
  consumed = Consumes-trans input left now _ _ r.consumed c;
  most = rw (length-append r.taken block) (omega (arith, h, r.count, r.most));
  within = stops r.taken block h r.within;
}
