use Rattle.std.proofs.Common.{length}
use Rattle.fp_committer.specs.Course.{GoesWell}
use Rattle.fp_session.specs.Session.{AreAtRest, StaysAhead}
use Rattle.fp_session.proofs.commit.commit_all.Given as goal

-- some first batches of what waited were sealed and settled
abbrev pub invariant-loop-desk : goal.invariant-loop-desk
invariant-loop-desk g l = record {
  stays : StaysAhead g.D.Disk l.initial.desk l.initial.store l.desk l.store;
  rest : AreAtRest l.desk l.store;
  well : GoesWell g.D.Disk l.initial.store.store l.store.store;
}

abbrev pub decreases-loop-desk : goal.decreases-loop-desk
decreases-loop-desk g l = length l.desk.desk.waiting
