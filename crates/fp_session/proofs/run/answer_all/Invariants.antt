use Rattle.std.proofs.Common.{◌≡◌, ◌≤◌, List, length}
use Rattle.fp_session.specs.Asks.{Ask}
use Rattle.fp_session.specs.Progress.{IsAtWith}
use Rattle.fp_session.specs.Sources.{HasAsked, most_waiting}
use Rattle.fp_session.proofs.run.answer_all.Given as goal

-- what was asked so far was answered, nothing failed, and no step is owed
abbrev pub invariant-loop-next : goal.invariant-loop-next
invariant-loop-next g l = record {
  asked : List Ask;
  came : HasAsked g.A.EditSource.asks l.fn.source l.fn.stream l.source l.stream asked;
  at : IsAtWith g.E.EditStore l.fn.edits l.edits asked (g.W.Write.contents l.fn.w.inner) (g.W.Write.contents l.w.inner) l.replies;
  few : length l.replies.waiting.items ≤ most_waiting l.fn.batching;
  paid : g.E.EditStore.owes l.edits → ⊥;
  sent_well : l.w.failures ≡ l.fn.w.failures;
  read_well : g.A.EditSource.failures l.stream ≡ g.A.EditSource.failures l.fn.stream;
}

abbrev pub decreases-loop-next : goal.decreases-loop-next
decreases-loop-next g l = g.A.EditSource.left l.stream

abbrev pub invariant-loop-next-2 : goal.invariant-loop-next-2
invariant-loop-next-2 g l = record {
  asked : List Ask;
  came : HasAsked g.A.EditSource.asks l.fn.source l.fn.stream l.source l.stream asked;
  at : IsAtWith g.E.EditStore l.fn.edits l.edits asked (g.W.Write.contents l.fn.w.inner) (g.W.Write.contents l.w.inner) l.replies;
  few : length l.replies.waiting.items ≤ most_waiting l.fn.batching;
  paid : g.E.EditStore.owes l.edits → ⊥;
  sent_well : l.w.failures ≡ l.fn.w.failures;
}

abbrev pub decreases-loop-next-2 : goal.decreases-loop-next-2
decreases-loop-next-2 g l = g.A.EditSource.at_hand l.source
