use Rattle.fp_journal.proofs.Steps as steps
use Rattle.fp_journal.proofs.journal.Journal.phase.Goals as goal

pub returns-clause-outcomes : goal.returns-clause-outcomes
returns-clause-outcomes g c =
    let D = g.D.Disk in let m = g.met.D.Disk in
    rw (← c.self.view_is) (steps.outcomes D m.present m.only_now c.self.invariant.0)

pub returns-clause-begun : goal.returns-clause-begun
returns-clause-begun g c = rw (← c.self.view_is) (steps.begun_is c.self.inside.held)

pub returns-clause-reads : goal.returns-clause-reads
returns-clause-reads g c =
    let D = g.D.Disk in let m = g.met.D.Disk in
    rw (← c.self.view_is) (λ h opened. steps.reads_opened D m.present m.only_now c.self.invariant.0 h opened)
