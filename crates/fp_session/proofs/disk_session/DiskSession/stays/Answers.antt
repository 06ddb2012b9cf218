use Rattle.fp_session.proofs.Commits.{in_step, still}
use Rattle.fp_session.proofs.disk_session.DiskSession.stays.Goals as goal

pub returns-clause-still : goal.returns-clause-still
returns-clause-still g c =
    let i = c.self.inside in let one = c.self.invariant.0 in
    rw (← c.self.view_is) ((λ h. h, λ h. h), still i.desk i.store one g.D.Disk g.met.D.Disk.only_now c.rest.ensures.exit)

pub returns-clause-in_step : goal.returns-clause-in_step
returns-clause-in_step g c =
    let i = c.self.inside in let inv = c.self.invariant in let shown = c.rest.ensures in
    rw (← c.self.view_is) (λ going.
    let rest = inv.1 going in in_step i.desk i.store inv.0 g.D.Disk rest (shown.idle rest.0) shown.exit)
