-- A day that may be written has a count that fits two bytes. Assumes nothing.
use Rattle.std.proofs.Common.{◌≡◌, refl, ap, ◌∙◌, rules, arith, w64}
use mir.Val.{SFits}
use mir.Facts.{to_z-of_z}
use Rattle.law.specs.Document.{bad_day, bad_minute}
use Rattle.law.specs.Index.{day_index}
use Rattle.reasoning.proofs.Answers.{both_no}
use Rattle.units.proofs.Counts.{count_le}
use Rattle.values.proofs.write.term_record.Goals as goal

pub day_index-requires : goal.day_index-requires
day_index-requires c =
    let f : SFits w64 c.args.term.day = search rules in
    ap bad_day (to_z-of_z f) ∙ (both_no (bad_day c.args.term.day) (bad_minute c.args.term.minute) c.requires).0

pub two_bytes-requires : goal.two_bytes-requires
two_bytes-requires c =
    let f : SFits w64 c.args.term.day = search rules in
    omega (arith, c.day_index.ensures ∙ ap day_index (to_z-of_z f), count_le 4 370 c.args.term.day (both_no (bad_day c.args.term.day) (bad_minute c.args.term.minute) c.requires).0)

pub returns : goal.returns
returns c =
    let f : SFits w64 c.args.term.day = search rules in
    rw (c.two_bytes.ensures, c.two_bytes-2.ensures, c.day_index.ensures ∙ ap day_index (to_z-of_z f)) refl
