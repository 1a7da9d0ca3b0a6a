-- A year that may be written has an index that fits two bytes. Assumes nothing.
use Rattle.std.proofs.Common.{◌≡◌, refl, ap, ◌∙◌, rules, arith, w64}
use mir.Val.{SFits}
use mir.Facts.{to_z-of_z}
use Rattle.law.specs.Document.{bad_year}
use Rattle.law.specs.Index.{year_index}
use Rattle.units.proofs.Counts.{count_le}
use Rattle.values.proofs.write.head_record.Goals as goal

pub year_index-requires : goal.year_index-requires
year_index-requires c = let f : SFits w64 c.args.head.n = search rules in ap bad_year (to_z-of_z f) ∙ c.requires.0

pub two_bytes-requires : goal.two_bytes-requires
two_bytes-requires c =
    let f : SFits w64 c.args.head.n = search rules in
    omega (arith, c.year_index.ensures ∙ ap year_index (to_z-of_z f), count_le 2_000 2_000 c.args.head.n c.requires.0)

pub returns : goal.returns
returns c =
    let f : SFits w64 c.args.head.n = search rules in
    rw (c.two_bytes.ensures, c.year_index.ensures ∙ ap year_index (to_z-of_z f)) refl
