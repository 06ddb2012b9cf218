use Rattle.fp_loop.proofs.Telling.{nothing_told, tells_on}
use Rattle.fp_loop.proofs.subscriber.Subscriber.listen.Goals as goal

pub loop-init : goal.loop-init
loop-init g c = nothing_told c.args.self.now.outgoing

pub returns-then-not-self-clause-tells : goal.returns-then-not-self-clause-tells
returns-then-not-self-clause-tells g c = c.loop.invariant

pub returns-then-eq-clause-tells : goal.returns-then-eq-clause-tells
returns-then-eq-clause-tells g c =
    tells_on c.args.self.now.outgoing c.loop.self.outgoing c.hear.new.self.outgoing c.loop.invariant c.hear.ensures

pub loop-preserved : goal.loop-preserved
loop-preserved g c =
    tells_on c.args.self.now.outgoing c.loop.self.outgoing c.hear.new.self.outgoing c.loop.invariant c.hear.ensures

pub returns-clause-tells : goal.returns-clause-tells
returns-clause-tells g c = c.loop.invariant
