-- A nought before one digit. Assumes nothing.
use Rattle.std.proofs.Common.{subst, List, ℕ, OnOk}
use Rattle.std.specs.Io.KnownBytes.{Appends}
use Rattle.console.proofs.TwoDigits.{one_digit, more_digits}
use Rattle.console.proofs.output.two_digits.Goals as goal

pub returns-clause-one : goal.returns-clause-one
returns-clause-one g c l =
    let w = rw c.laid_out.ensures at c.write.ensures.bytes in
    subst (λ (bytes : List ℕ). OnOk c.write.result (Appends (g.W.Write.contents c.args.out.now) (g.W.Write.contents c.write.new.self) bytes)) (one_digit c.args.n l) w

pub returns-clause-more : goal.returns-clause-more
returns-clause-more g c l =
    let w = rw c.laid_out.ensures at c.write.ensures.bytes in
    subst (λ (bytes : List ℕ). OnOk c.write.result (Appends (g.W.Write.contents c.args.out.now) (g.W.Write.contents c.write.new.self) bytes))
    (more_digits c.args.n l c.ranges.n.fits) w
