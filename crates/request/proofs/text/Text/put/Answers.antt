-- The text stands in the buffer. Assumes nothing.
use Rattle.std.proofs.Common.{arith}
use lib.Seq.{length-take-le}
use Rattle.request.proofs.text.Put.{puts}
use Rattle.request.proofs.text.Text.put.Goals as goal

pub returns : goal.returns
returns c =
    let text = c.self.inside in
    rw (c.copy_from_slice.ensures.after, ← c.self.view_is) (puts _ c.args.out.now c.args.at text.len (length-take-le text.len text.bytes (omega (arith, c.self.invariant, c.self.told))) c.self.invariant c.requires)
