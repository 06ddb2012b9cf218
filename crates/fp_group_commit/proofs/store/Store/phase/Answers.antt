use Rattle.fp_group_commit.proofs.Steps as steps
use Rattle.fp_group_commit.proofs.store.Store.phase.Goals as goal

pub returns-clause-begun : goal.returns-clause-begun
returns-clause-begun g c = rw (← c.self.view_is)
    (λ well. steps.begun_at c.self.inside.slots.journal.phase c.self.inside.phase c.self.inside.slots.journal.begun
    well c.self.invariant.going)

pub returns-clause-outcomes : goal.returns-clause-outcomes
returns-clause-outcomes g c = rw (← c.self.view_is) (steps.now g.D.Disk c.self.invariant c.phase.ensures.outcomes)
