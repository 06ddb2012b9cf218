use Rattle.fp_committer.specs.Room.{Proceeds}
use Rattle.fp_committer.proofs.Rooms.{RanOn, work_left}
use Rattle.fp_committer.proofs.room.finish.Given as goal

-- some steps were taken
abbrev pub invariant-loop-store : goal.invariant-loop-store
invariant-loop-store g l = Proceeds g.D.Disk l.initial.store l.store × RanOn l.initial.store l.store

abbrev pub decreases-loop-store : goal.decreases-loop-store
decreases-loop-store g l = work_left l.store
