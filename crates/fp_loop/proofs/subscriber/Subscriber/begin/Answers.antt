use Rattle.std.proofs.Common.{Some, subst, sym}
use Rattle.fp_loop.specs.Subscribers.{TellsOn}
use Rattle.fp_loop.proofs.Telling.{nothing_told}
use Rattle.fp_loop.proofs.subscriber.Subscriber.begin.Goals as goal

pub returns-in_default-clause-tells : goal.returns-in_default-clause-tells
returns-in_default-clause-tells g c = nothing_told c.args.self.now.outgoing

pub returns-then-is_sending-clause-tells : goal.returns-then-is_sending-clause-tells
returns-then-is_sending-clause-tells g c =
    subst (λ o. TellsOn o (Some c.in-Some.outgoing)) (sym c.in-Some.is) (nothing_told (Some c.in-Some.outgoing))

pub returns-then-eq-clause-tells : goal.returns-then-eq-clause-tells
returns-then-eq-clause-tells g c =
    subst (λ o. TellsOn o c.wait_for.new.self.outgoing) (sym c.in-Some.is)
    (subst (TellsOn (Some c.in-Some.outgoing)) (sym c.wait_for.ensures.outgoing) c.offered-turn.ensures.tells)

pub returns-else-eq-clause-tells : goal.returns-else-eq-clause-tells
returns-else-eq-clause-tells g c =
    subst (λ o. TellsOn o (Some c.offered-turn.new.outgoing)) (sym c.in-Some.is) c.offered-turn.ensures.tells
