use Rattle.fp_session.proofs.Sessions.{stopped_fails}
use Rattle.fp_session.proofs.disk_session.DiskSessionEditStore.commit.Goals as goal

pub returns-then-self-clause-fate : goal.returns-then-self-clause-fate
returns-then-self-clause-fate g c = stopped_fails g.D.Disk _ _ c.self.view_is c.if-self.true

pub returns-in_err-commit_all-clause-any_moment : goal.returns-in_err-commit_all-clause-any_moment
returns-in_err-commit_all-clause-any_moment g c = let w = c.commit_all.ensures.stays in rw (← c.self.view_is) (w.honest, w.any_moment)

pub returns-clause-any_moment : goal.returns-clause-any_moment
returns-clause-any_moment g c = let w = c.commit_all.ensures.stays in rw (← c.self.view_is) (w.honest, w.any_moment)
