-- Both legs at the folded arc; the base is the height at its complement. Assumes nothing.
use Rattle.std.proofs.Common.{◌-◌, ◌∙◌}
use Rattle.law.specs.Document.{quarter}
use Rattle.sun.proofs.equation.BothLegs.{leg_is, height_there, base_there}
use Rattle.sun.proofs.equation.NearerEnd.{folded_nearer}
use Rattle.sun.proofs.equation.tangent.Goals as goal

pub tangent_from-requires : goal.tangent_from-requires
tangent_from-requires g c =
    let arc = c.nearer.ensures.0 ∙ folded_nearer c.args.u c.requires in
    let x = c.nearer.result in
    let both = c.sine_and_cosine-both.ensures in (
      c.requires,
      height_there c.args.u arc (leg_is x c.leg.ensures.0 both.0),
      base_there c.args.u arc (leg_is (quarter - x) c.leg-2.ensures.0 both.2),
      c.leg.ensures.1,
      c.leg-2.ensures.1,
    )
