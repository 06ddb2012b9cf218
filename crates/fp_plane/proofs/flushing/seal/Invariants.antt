use Rattle.std.proofs.Common.{◌≡◌, false}
use Rattle.fp_committer.specs.Course.{Course}
use Rattle.fp_committer.specs.Way.{batch_drawn}
use Rattle.fp_plane.proofs.flushing.seal.Given as goal

-- it is drawn still
abbrev pub invariant-loop : goal.invariant-loop
invariant-loop g l = record {
  course : Course g.D.Disk l.initial.half l.half;
  drawn : l.half.progress ≡ batch_drawn;
  well : l.half.store.failed ≡ false;
  no_failure : g.D.Disk.faults l.half.store.disk ≡ g.D.Disk.faults l.initial.half.store.disk;
}
