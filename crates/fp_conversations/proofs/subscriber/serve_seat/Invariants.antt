use Rattle.std.proofs.Common.{◌≡◌, ℕ, List, Option, IfSome}
use Rattle.fp_publish.specs.Seats.{had_by}
use Rattle.fp_stream.specs.declared.hello.Hello.{Hello}
use Rattle.fp_conversations.specs.Sending.{IsSent}
use Rattle.fp_conversations.proofs.SendingLemmas.{news_left}
use Rattle.fp_conversations.proofs.subscriber.serve_seat.Given as goal

-- what was sent so far, of what was shown, and no failure
abbrev pub invariant-loop-handed : goal.invariant-loop-handed
invariant-loop-handed g l = (l.w.failures ≡ l.fn.w.failures)
    × IfSome l.shown (λ s. s.store ≡ g.K.Naming.store)
    × ((had : Hello) (before : Option (List ℕ)) →
    IsSent l.fn.shown had (had_by l.fn.seat) before (g.O.Write.contents l.fn.w.inner)
    → IsSent l.shown had (had_by l.seat) before (g.O.Write.contents l.w.inner))

-- each has a greater revision than the one before
abbrev pub decreases-loop-handed : goal.decreases-loop-handed
decreases-loop-handed g l = news_left (had_by l.seat)
