-- Fewer than 24 records are refused after the year; else the values are written as they are. Assumes nothing.
use Rattle.std.proofs.Common.{◌<◌, ap, length, rules, arith, take, map, w64}
use lib.ListN.{length-map}
use lib.Seq.{take_all}
use mir.Val.{SFits}
use mir.Facts.{to_z-of_z}
use Rattle.sun.specs.Said.{values_of_term}
use Rattle.values.specs.Said.{given_year}
use Rattle.values.proofs.WriteAnswers.{tell_refused, list_6}
use Rattle.lists.proofs.write.write_year_from.Goals as goal

pub returns-in_default : goal.returns-in_default
returns-in_default c =
    let fits : SFits w64 c.args.head.n = search rules in
    let l = c.args.list.now in
    let b = c.args.buf.now in
    let less : length l < 24 = c.in_default.ensures.cases in
    let few : length (map values_of_term (take 24 l)) < 24 = omega (arith, length-map (take 24 l) values_of_term, ap length (take_all 24 l (omega arith))) in
    rw (c.no_room.ensures, to_z-of_z fits) (tell_refused b (list_6 (given_year c.args.head (take 24 l)) b few))
