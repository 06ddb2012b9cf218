use Rattle.fp_session.proofs.Commits.{kept_ahead}
use Rattle.fp_session.proofs.disk_session.DiskSession.into_disk.Goals as goal

pub returns-clause-keeps : goal.returns-clause-keeps
returns-clause-keeps g c =
    let i = c.self.inside in
    rw (← c.self.view_is) (λ h o out. kept_ahead i.desk i.store c.self.invariant.0 o (c.into_disk.ensures.outcomes h o out))
