-- The angle is that of the tangent at the mirrored anomaly. Assumes nothing.
use Rattle.std.proofs.Common.{ap, ◌∙◌}
use Rattle.law.specs.Document.{epicycles}
use Rattle.motion.specs.Working.{tangent_of}
use Rattle.motion.proofs.Bridge.{size_from}
use Rattle.sun.proofs.equation.NearerEnd.{mirrored_nearer}
use Rattle.sun.proofs.equation.size_at.Goals as goal

pub returns : goal.returns
returns g c = (
  c.angle_of.ensures.0
      ∙ size_from epicycles c.args.a c.tangent.result (c.tangent.ensures ∙ ap (tangent_of epicycles) (c.nearer.ensures.0 ∙ mirrored_nearer c.args.a c.requires)),
  c.angle_of.ensures.1,
)
