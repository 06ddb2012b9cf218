use Rattle.std.proofs.Common.{refl}
use Rattle.std.proofs.lemmas.Result.{err_from_is_err_and}
use Rattle.fp_committer.proofs.Courses.{course_calls}
use Rattle.fp_session.proofs.Commits.{calls_stay}
use Rattle.fp_session.proofs.Sessions.{can_fail, stopped_fails}
use Rattle.fp_session.proofs.disk_session.DiskSessionEditStore.go_on.Goals as goal

pub returns-then-self-clause-fate : goal.returns-then-self-clause-fate
returns-then-self-clause-fate g c = stopped_fails g.D.Disk _ _ c.self.view_is c.if-self.true

pub returns-in_err-go_on-clause-any_moment : goal.returns-in_err-go_on-clause-any_moment
returns-in_err-go_on-clause-any_moment g c =
    let s = calls_stay c.self.inside.desk c.self.inside.store c.self.invariant.0 g.D.Disk c.go_on.new.self c.go_on.ensures.kept in
    rw (← c.self.view_is) (s.honest, s.any_moment)

pub returns-clause-any_moment : goal.returns-clause-any_moment
returns-clause-any_moment g c =
    let s = calls_stay c.self.inside.desk c.self.inside.store c.self.invariant.0 g.D.Disk c.go_on.new.self c.go_on.ensures.kept in
    rw (← c.self.view_is) (s.honest, s.any_moment)

pub returns-in_err-go_on-clause-fate : goal.returns-in_err-go_on-clause-fate
returns-in_err-go_on-clause-fate g c =
    let D = g.D.Disk in let p = err_from_is_err_and c.from_residual.result c.from_residual.ensures.1 in
    let k = c.go_on.ensures.kept in let e = c.in_err-go_on in
    rw (p.1, p.2, ← c.self.view_is) (record {
      honest = k.honest;
      cause = λ ready. can_fail D _ _ e.field-0.0 e.ensures.cause;
      called = e.ensures.called;
      course = course_calls D c.self.inside.store c.go_on.new.self k;
    })

pub returns-clause-fate : goal.returns-clause-fate
returns-clause-fate g c =
    let k = c.go_on.ensures.kept in let w = c.in_ok-go_on.ensures.well in
    rw (← c.self.view_is) (record {
      honest = k.honest;
      no_failure = w.no_failure;
      ready = λ ready. (refl, c.stays-2.ensures.in_step refl);
      called = w.works;
      course = course_calls g.D.Disk c.self.inside.store c.go_on.new.self k;
    })
