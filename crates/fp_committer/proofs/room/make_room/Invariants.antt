use Rattle.std.proofs.Common.{◌≡◌}
use Rattle.fp_group_commit.specs.Changes.{HasRoom}
use Rattle.fp_committer.specs.Room.{Proceeds}
use Rattle.fp_committer.proofs.Rooms.{work_left}
use Rattle.fp_committer.proofs.room.make_room.Given as goal

-- some steps were taken, and none where there was room
abbrev pub invariant-loop-store : goal.invariant-loop-store
invariant-loop-store g l = Proceeds g.D.Disk l.initial.store l.store
    × (HasRoom l.initial.store l.fn.draw → l.store ≡ l.initial.store)

abbrev pub decreases-loop-store : goal.decreases-loop-store
decreases-loop-store g l = work_left l.store
