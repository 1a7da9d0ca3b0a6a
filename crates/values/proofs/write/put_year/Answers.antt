-- The head, then a term further at each turn. Assumes nothing.
use Rattle.std.proofs.Common.{◌≡◌, ◌≤◌, ap, sym, ◌∙◌, map, length, get_or, ◌++◌, drop, rules, arith}
use lib.ListN.{length-map}
use Rattle.sun.specs.Said.{values_of_term}
use Rattle.sun.specs.Worked.{zero_record}
use Rattle.values.specs.Said.{given_year}
use Rattle.values.proofs.GivenTerms.{term_next, term_not_bad}
use Rattle.values.proofs.WrittenIsRead.{ranges}
use Rattle.values.proofs.write.BufferFilled.{buffer_to, fill_head, fill_more, fill_end}
use Rattle.values.proofs.write.put_year.Goals as goal

pub head_record-requires : goal.head_record-requires
head_record-requires c =
    let r = ranges (given_year c.args.head c.args.terms.now) c.requires.2 in
    (c.requires.1, omega (arith, r.name), omega (arith, r.duty))

pub loop-k-init : goal.loop-k-init
loop-k-init c =
    let b = c.args.buf.now in
    let ts = c.args.terms.now in
    let head = c.copy_from_slice.ensures.after ∙ c.head_record.ensures in
    ap (λ h. buffer_to 0 5 (map values_of_term ts) (h ++ drop 5 b)) head ∙ fill_head c.args.head ts b

pub term_record-requires : goal.term_record-requires
term_record-requires c =
    let long : length c.args.terms.now ≡ 24 = search rules in
    term_not_bad c.args.terms.now c.loop-k.k (ranges (given_year c.args.head c.args.terms.now) c.requires.2).terms (omega arith)

pub loop-k-preserved : goal.loop-k-preserved
loop-k-preserved c =
    let l = c.loop-k in
    let ts = c.args.terms.now in
    let all : length ts ≡ 24 = search rules in
    let long : 149 ≤ length l.buf = omega (arith, l.auto.buf) in
    fill_more l.k _ (map values_of_term ts) (values_of_term (get_or ts l.k zero_record)) l.buf _ c.loop-k-test.true long (omega arith) (term_next ts l.k (omega arith))
    (c.copy_from_slice-in-loop-k.ensures.after ∙ c.term_record.ensures)
    ∙ l.invariant

pub returns : goal.returns
returns c =
    let l = c.loop-k in
    let ts = c.args.terms.now in
    let all : length ts ≡ 24 = search rules in
    let end : l.k ≡ 24 = omega arith in
    sym (fill_end 24 (map values_of_term ts) l.buf (omega (arith, all, length-map ts values_of_term)))
    ∙ rw end at l.invariant
