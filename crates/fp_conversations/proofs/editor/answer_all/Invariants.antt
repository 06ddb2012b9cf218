use Rattle.std.proofs.Common.{◌≡◌}
use Rattle.std.specs.Prelude.{IfSome}
use Rattle.fp_conversations.proofs.EditingLemmas.{IsUnderWay}
use Rattle.fp_conversations.proofs.editor.answer_all.Given as goal

-- what was asked so far is answered, and no stream failed
abbrev pub invariant-loop-next : goal.invariant-loop-next
invariant-loop-next g l = record {
  read_well : g.A.EditSource.failures l.stream ≡ g.A.EditSource.failures l.fn.stream;
  sent_well : l.w.failures ≡ l.fn.w.failures;
  ours : IfSome l.told (λ t. t.store ≡ g.K.Naming.store);
  way : IsUnderWay g.A.EditSource.asks l.fn.source l.fn.stream l.source l.stream g.K.Naming.store l.told
      l.fn.editing l.editing (g.O.Write.contents l.fn.w.inner) (g.O.Write.contents l.w.inner);
}

abbrev pub decreases-loop-next : goal.decreases-loop-next
decreases-loop-next g l = g.A.EditSource.left l.stream

abbrev pub invariant-loop-next-2 : goal.invariant-loop-next-2
invariant-loop-next-2 g l = record {
  sent_well : l.w.failures ≡ l.fn.w.failures;
  ours : IfSome l.told (λ t. t.store ≡ g.K.Naming.store);
  way : IsUnderWay g.A.EditSource.asks l.fn.source l.fn.stream l.source l.stream g.K.Naming.store l.told
      l.fn.editing l.editing (g.O.Write.contents l.fn.w.inner) (g.O.Write.contents l.w.inner);
}

abbrev pub decreases-loop-next-2 : goal.decreases-loop-next-2
decreases-loop-next-2 g l = g.A.EditSource.at_hand l.source
