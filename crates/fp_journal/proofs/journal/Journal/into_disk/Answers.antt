use Rattle.fp_journal.proofs.Steps as steps
use Rattle.fp_journal.proofs.journal.Journal.into_disk.Goals as goal

pub returns-clause-outcomes : goal.returns-clause-outcomes
returns-clause-outcomes g c =
    let D = g.D.Disk in let m = g.met.D.Disk in
    rw (← c.self.view_is, c.into_disk.ensures) (steps.outcomes D m.present m.only_now c.self.invariant.0)
