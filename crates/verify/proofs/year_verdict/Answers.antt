-- The head decides, or the terms that are left at each turn. Assumes nothing.
use Rattle.std.proofs.Common.{◌≡◌, sym, subst, ◌∙◌, arith, ℤ, List, ℕ, ◌<◌, ◌≤◌, ◌-ℤ◌, pos, get_or, w64, to_z}
use Rattle.law.specs.Document.{epicycles, bad_day, bad_minute, terms_answer}
use Rattle.law.specs.Book.{two_at}
use Rattle.std.specs.Prelude.{Result, Ok, Err}
use Rattle.units.specs.declared.refusal.Refusal.{Refusal}
use Rattle.sun.specs.declared.worked_year.WorkedYear.{WorkedYear}
use Rattle.sun.specs.Worked.{zero_record, WorkedOut}
use Rattle.reasoning.proofs.Answers.{both_no}
use Rattle.units.proofs.Machine.{read}
use Rattle.values.proofs.GivenTerms.{term_not_bad}
use Rattle.values.proofs.ReturnTrips.{in_range}
use Rattle.verify.specs.Verify.{number_in}
use Rattle.verify.proofs.YearTurns.{Worked, worked, not_refused, number_there, other_name, other_mansion, same_head, all_terms, no_terms, other_term, same_term}
use Rattle.verify.proofs.year_verdict.Goals.{then-byte_at-year-via-then-byte_at-year, then-byte_at-year-via-else-byte_at-year+then-byte_at-year-2}
use Rattle.verify.proofs.year_verdict.Goals as goal

-- what was worked out of the two bytes x is the year of the N in the head, which is in range
module _ (b : List ℕ) (x : ℕ) (q : (x ≡ two_at b 1) × (x < 65_536)) (h : two_at b 1 ≤ 4_000) where
  abbrev Asked : Result WorkedYear Refusal → Type 0
  Asked r = WorkedOut (read w64 (to_z w64 x -ℤ pos 2_000)) (terms_answer epicycles (read w64 (to_z w64 x -ℤ pos 2_000))) r

  its_own : (r : Result WorkedYear Refusal) → Asked r → WorkedOut (number_in b) (terms_answer epicycles (number_in b)) r
  its_own r w = subst (λ (z : ℤ). WorkedOut z (terms_answer epicycles z) r) (number_there x q.1 b q.0) w

  our : (r : WorkedYear) → Asked (Ok r) → Worked epicycles (number_in b) r
  our r w = worked epicycles (omega arith) (number_in b) (in_range 2_000 2_000 (two_at b 1) h) r (its_own (Ok r) w)

  no_refusal : (r : Refusal) → Asked (Err r) → ⊥
  no_refusal r w = not_refused epicycles (omega arith) (number_in b) (in_range 2_000 2_000 (two_at b 1) h) r (its_own (Err r) w)

pub unreachable-requires : goal.unreachable-requires
unreachable-requires c =
    let b = c.args.part.now in
    let x = c.two_at.result in
    no_refusal b x c.two_at.ensures c.requires.3 c.in_default.field-0 (subst (Asked b x c.two_at.ensures c.requires.3) c.in_default.is c.work_year.ensures)

pub returns-then-byte_at-year : goal.returns-then-byte_at-year
returns-then-byte_at-year c =
    let b = c.args.part.now in
    let r = c.in-Ok.worked in
    let y = our b c.two_at.result c.two_at.ensures c.requires.3 r c.in-Ok.ensures in
    elim c.then-byte_at-year.branch [
      | then-byte_at-year-via-then-byte_at-year w ↦ other_name epicycles b c.args.at r y c.byte_at.result c.byte_at.ensures.0 w.if-byte_at-year.true
      | then-byte_at-year-via-else-byte_at-year+then-byte_at-year-2 w ↦
          other_mansion epicycles b c.args.at r y c.byte_at.result c.byte_at.ensures.0 w.if-byte_at-year.false
          w.byte_at-else-byte_at-year.result w.byte_at-else-byte_at-year.ensures.0 w.if-byte_at-year-2.true
    ]

pub loop-k-init : goal.loop-k-init
loop-k-init c =
    let r = c.in-Ok.worked in
    let b = c.args.part.now in
    let y = our b c.two_at.result c.two_at.ensures c.requires.3 r c.in-Ok.ensures in
    let head = same_head epicycles b c.args.at r y c.byte_at.result c.byte_at.ensures.0 c.if-byte_at-year.false c.byte_at-else-byte_at-year.result c.byte_at-else-byte_at-year.ensures.0 c.if-byte_at-year-2.false c.requires.2 in
    (y.all, y.good, sym (all_terms c.args.at b r.terms) ∙ head)

pub term_differs-requires : goal.term_differs-requires
term_differs-requires c =
    let ts = c.in-Ok.worked.terms in
    let k = c.loop-k.k in
    let t = get_or ts k zero_record in
    (both_no (bad_day t.day) (bad_minute t.minute) (term_not_bad ts k c.loop-k.invariant.1 (omega (arith, c.loop-k.invariant.0)))).0

pub returns-then-term_differs : goal.returns-then-term_differs
returns-then-term_differs c =
    other_term c.args.at c.args.part.now c.in-Ok.worked.terms c.loop-k.k (omega (arith, c.loop-k.invariant.0)) c.if-term_differs.ensures
    ∙ c.loop-k.invariant.2

pub loop-k-preserved : goal.loop-k-preserved
loop-k-preserved c = (
  c.loop-k.invariant.0,
  c.loop-k.invariant.1,
  same_term c.args.at c.args.part.now c.in-Ok.worked.terms c.loop-k.k (omega (arith, c.loop-k.invariant.0)) c.if-term_differs.ensures
      ∙ c.loop-k.invariant.2,
)

pub returns : goal.returns
returns c = no_terms c.args.at c.args.part.now c.in-Ok.worked.terms c.loop-k.k (omega (arith, c.loop-k.invariant.0)) ∙ c.loop-k.invariant.2
