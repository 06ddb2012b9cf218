use Rattle.std.proofs.Common.{subst}
use Rattle.fp_publish.specs.Seats.{had_by}
use Rattle.fp_conversations.specs.Sending.{IsCause}
use Rattle.fp_conversations.proofs.SendingLemmas.{sent-none}
use Rattle.fp_conversations.proofs.subscriber.subscriber_loop.Goals as goal

-- the seat has what the subscriber said, and then what it was sent
pub returns-in-Ok-Over-clause-served : goal.returns-in-Ok-Over-clause-served
returns-in-Ok-Over-clause-served g c =
    let hello = c.in-Ok.hello in let held = g.O.Write.contents c.args.w.now.inner in let served = c.in-Ok-Over.ensures in
    let sent = served.sent hello held (sent-none hello (had_by c.in-Ok-seat.seat) held c.in-Ok-seat.ensures) in
    (served.counted, (hello, sent.0, c.in-Ok.ensures.heard, sent.1))

-- and what is too long is none of it
pub returns-in-Ok-Long-clause-served : goal.returns-in-Ok-Long-clause-served
returns-in-Ok-Long-clause-served g c =
    let hello = c.in-Ok.hello in let held = g.O.Write.contents c.args.w.now.inner in let served = c.in-Ok-Long.ensures in
    let sent = served.sent hello held (sent-none hello (had_by c.in-Ok-seat.seat) held c.in-Ok-seat.ensures) in
    let long = subst (IsCause c.serve_seat-served.new.shown sent.0) c.in-Ok-Long.field-0-is sent.2 in
    (served.counted, (hello, sent.0, c.in-Ok.ensures.heard, sent.1, long))
