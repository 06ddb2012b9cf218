use Rattle.fp_loop.proofs.Telling.{tells_on}
use Rattle.fp_loop.proofs.subscriber.Subscriber.turn.Goals as goal

pub returns-then-eq-clause-tells : goal.returns-then-eq-clause-tells
returns-then-eq-clause-tells g c =
    tells_on c.args.self.now.outgoing c.listen-heard.new.self.outgoing c.tell-told.new.self.outgoing
    c.listen-heard.ensures.tells c.tell-told.ensures.tells

pub returns-clause-tells : goal.returns-clause-tells
returns-clause-tells g c =
    tells_on c.args.self.now.outgoing c.listen-heard.new.self.outgoing c.tell-told.new.self.outgoing
    c.listen-heard.ensures.tells c.tell-told.ensures.tells
