use Rattle.std.proofs.Common.{◌∙◌, ap, refl}
use Rattle.fp_loop.proofs.Telling.{nothing_told, tells_on}
use Rattle.fp_loop.proofs.subscriber.Subscriber.tell.Goals as goal

pub loop-init : goal.loop-init
loop-init g c = (nothing_told c.args.self.now.outgoing, refl)

pub returns-then-not-self-clause-tells : goal.returns-then-not-self-clause-tells
returns-then-not-self-clause-tells g c = c.loop.invariant.0

pub returns-then-not-self-clause-reads : goal.returns-then-not-self-clause-reads
returns-then-not-self-clause-reads g c = c.loop.invariant.1

pub returns-then-ne-clause-tells : goal.returns-then-ne-clause-tells
returns-then-ne-clause-tells g c =
    tells_on c.args.self.now.outgoing c.loop.self.outgoing c.begin-begun.new.self.outgoing c.loop.invariant.0
    c.begin-begun.ensures.tells

pub returns-then-ne-clause-waits : goal.returns-then-ne-clause-waits
returns-then-ne-clause-waits g c waits may_write = c.begin-begun.ensures.waits waits

pub returns-then-ne-clause-reads : goal.returns-then-ne-clause-reads
returns-then-ne-clause-reads g c = ap (λ s. s.may_read) c.begin-begun.ensures.socket ∙ c.loop.invariant.1

pub returns-then-eq-clause-tells : goal.returns-then-eq-clause-tells
returns-then-eq-clause-tells g c =
    tells_on c.args.self.now.outgoing c.loop.self.outgoing c.send.new.self.outgoing c.loop.invariant.0
    (tells_on c.loop.self.outgoing c.begin-begun.new.self.outgoing c.send.new.self.outgoing
    c.begin-begun.ensures.tells c.send.ensures.tells)

pub returns-then-eq-clause-reads : goal.returns-then-eq-clause-reads
returns-then-eq-clause-reads g c =
    c.send.ensures.reads ∙ (ap (λ s. s.may_read) c.begin-begun.ensures.socket ∙ c.loop.invariant.1)

pub loop-preserved : goal.loop-preserved
loop-preserved g c = (
  tells_on c.args.self.now.outgoing c.loop.self.outgoing c.send.new.self.outgoing c.loop.invariant.0
      (tells_on c.loop.self.outgoing c.begin-begun.new.self.outgoing c.send.new.self.outgoing
      c.begin-begun.ensures.tells c.send.ensures.tells),
  c.send.ensures.reads ∙ (ap (λ s. s.may_read) c.begin-begun.ensures.socket ∙ c.loop.invariant.1),
)

pub returns-clause-tells : goal.returns-clause-tells
returns-clause-tells g c = c.loop.invariant.0

pub returns-clause-reads : goal.returns-clause-reads
returns-clause-reads g c = c.loop.invariant.1
