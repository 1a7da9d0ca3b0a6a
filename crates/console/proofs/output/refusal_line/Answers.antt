-- The line is document 01's. Assumes nothing.
use Rattle.std.proofs.Common.{subst, ℕ, List, OnOk}
use Rattle.std.specs.Io.KnownBytes.{Appends}
use Rattle.console.proofs.RefusalLines.{written}
use Rattle.console.proofs.output.refusal_line.Goals as goal

pub returns : goal.returns
returns g c =
    subst (λ (bytes : List ℕ). OnOk c.writeln.result (Appends (g.W.Write.contents c.args.out.now) (g.W.Write.contents c.writeln.new.self) bytes))
    (written c.args.refusal) c.writeln.ensures.bytes
