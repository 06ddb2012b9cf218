use Rattle.fp_group_commit.proofs.Sizes as sizes
use Rattle.fp_group_commit.proofs.Steps as steps
use Rattle.fp_group_commit.proofs.store.Store.has_room.Goals as goal

pub returns-clause-room : goal.returns-clause-room
returns-clause-room g c =
    let D = g.D.Disk in let i = c.self.invariant in let group = c.args.draw.now in
    rw (← c.self.view_is) (
      λ yes. sizes.room_of D.honest D.unsynced i group (c.has_room.ensures.0 yes),
      λ room. c.has_room.ensures.1 (sizes.place_of D.honest D.unsynced i group room),
    )

pub returns-clause-full : goal.returns-clause-full
returns-clause-full g c = rw (← c.self.view_is) (λ rest begins none h o left.
    c.phase.ensures.full h begins (steps.rests g.D.Disk c.self.invariant rest) c.self.invariant.size _
    (c.self.invariant.kept_is h) c.args.draw.now none o left)

pub returns-clause-quarter : goal.returns-clause-quarter
returns-clause-quarter g c = let D = g.D.Disk in rw (← c.self.view_is) (sizes.quarter D.honest D.unsynced c.self.invariant)
