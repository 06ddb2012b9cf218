use Rattle.fp_group_commit.proofs.Steps as steps
use Rattle.fp_group_commit.proofs.store.Store.into_disk.Goals as goal

pub returns-clause-outcomes : goal.returns-clause-outcomes
returns-clause-outcomes g c = rw (← c.self.view_is, c.into_disk.ensures.disk) (steps.now g.D.Disk c.self.invariant c.phase.ensures.outcomes)

pub returns-clause-reads : goal.returns-clause-reads
returns-clause-reads g c = rw (← c.self.view_is, c.into_disk.ensures.disk)
    (steps.reads g.D.Disk c.self.invariant g.met.D.Disk.present c.phase.ensures.outcomes c.phase.ensures.reads)
