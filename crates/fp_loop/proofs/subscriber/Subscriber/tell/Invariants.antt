use Rattle.std.proofs.Common.{◌≡◌}
use Rattle.fp_loop.specs.Subscribers.{TellsOn}
use Rattle.fp_loop.proofs.subscriber.Subscriber.tell.Given as goal

abbrev pub invariant-loop : goal.invariant-loop
invariant-loop g l =
    TellsOn l.fn.self.outgoing l.self.outgoing
    × (l.self.socket.may_read ≡ l.fn.self.socket.may_read)
