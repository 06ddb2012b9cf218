use Rattle.std.proofs.Common.{◌≡◌, false}
use Rattle.fp_committer.specs.Course.{Course}
use Rattle.fp_plane.specs.Flushing.{IsResting, PaysEach}
use Rattle.fp_hall.specs.Hall.{IsStoreOf}
use Rattle.fp_plane.proofs.flushing.flush_while_busy.Given as goal

-- the half came this far, by a step behind each batch, and is the plane's, and no step is owed
abbrev pub invariant-loop : goal.invariant-loop
invariant-loop g l = record {
  course : Course g.D.Disk l.fn.half l.half;
  steps : PaysEach g.D.Disk l.fn.owes_step l.fn.half l.half;
  ours : IsStoreOf g.K.Naming.store g.K.Naming.desk_lists g.K.Naming.store_lists l.half;
  rest : IsResting l.half;
  no_failure : g.D.Disk.faults l.half.store.disk ≡ g.D.Disk.faults l.fn.half.store.disk;
  paid : l.owes_step ≡ false;
}
