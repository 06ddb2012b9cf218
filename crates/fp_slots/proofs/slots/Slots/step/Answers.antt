use Rattle.fp_slots.proofs.Steps as steps
use Rattle.fp_slots.proofs.slots.Slots.step.Goals as goal

pub returns-clause-outcomes : goal.returns-clause-outcomes
returns-clause-outcomes g c = rw (← c.self.view_is, c.step.ensures)
    (steps.kept_now g.D.Disk c.self.invariant.0 c.phase-phase.ensures.outcomes)
