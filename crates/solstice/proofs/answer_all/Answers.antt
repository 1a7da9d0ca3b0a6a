-- A turn answers what it takes; the last answers what is left. Assumes nothing.
use Rattle.std.proofs.Common.{◌≡◌, rules, arith, Ok, take}
use Rattle.std.proofs.lemmas.Result.{on_ok_weaker}
use Rattle.solstice.proofs.Answered.{begun, ended, turned}
use Rattle.solstice.proofs.answer_all.Goals as goal

pub loop-init : goal.loop-init
loop-init g c = begun _ _

pub returns-then-n-eq0 : goal.returns-then-n-eq0
returns-then-n-eq0 g c =
    let was : c.read.result ≡ Ok 0 = search rules in
    let read = rw was at c.read.ensures.bytes in
    on_ok_weaker c.put.result
    (ended (g.R.Read.remaining c.read.new.self) (g.W.Write.contents c.put.new.out) c.finish-written.ensures (grind arith) read.0 (read.1 (grind arith) (grind arith)) c.loop.invariant)
    c.put.ensures

pub loop-preserved : goal.loop-preserved
loop-preserved g c =
    let was : c.read.result ≡ Ok c.in_ok-n.n = search rules in
    let read = rw was at c.read.ensures.bytes in
    turned (take c.in_ok-n.n c.read.new.buf) c.feed-fed.ensures (grind arith) read.0 c.in_ok-put.ensures c.loop.invariant
