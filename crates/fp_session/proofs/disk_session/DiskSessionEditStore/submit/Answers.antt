use Rattle.std.proofs.Common.{refl, subst, ◌∙◌}
use Rattle.fp_desk.specs.Desk.{Refuses, head}
use Rattle.fp_desk.specs.declared.fault.SubmitFault.{SubmitFault}
use Rattle.fp_edit.specs.Edits.{proposal_of}
use Rattle.fp_session.proofs.Sessions.{keeps_desk, mid_ahead, mid_in_step, mid_one, mid_rest, mid_revision, refused_known, stays_put}
use Rattle.fp_session.proofs.disk_session.DiskSessionEditStore.submit.Goals as goal

pub invariant_of-self : goal.invariant_of-self
invariant_of-self g c =
    let a = c.self.inside.desk in let x = c.submit.new.self in let b = c.self.inside.store in let p = proposal_of c.args.edit in
    let acc = c.in-Ok.ensures.accepted in
    (mid_one a x b p acc c.submit.ensures.half c.self.invariant.0, λ going. mid_rest a x b p acc (c.self.invariant.1 going))

pub returns-in-Ok-clause-revision : goal.returns-in-Ok-clause-revision
returns-in-Ok-clause-revision g c =
    mid_revision c.self.inside.desk.desk c.submit.new.self.desk (proposal_of c.args.edit) c.in-Ok.ensures.accepted c.revision.result
    (c.revision.ensures ∙ c.in-Ok.ensures.revision)

pub returns-in-Ok-clause-ahead : goal.returns-in-Ok-clause-ahead
returns-in-Ok-clause-ahead g c =
    rw (← c.self.view_is) (mid_ahead c.self.inside.desk.desk c.submit.new.self.desk (proposal_of c.args.edit) c.in-Ok.ensures.accepted)

pub returns-in-Ok-clause-goes_on : goal.returns-in-Ok-clause-goes_on
returns-in-Ok-clause-goes_on g c =
    let s = c.self.inside.store.store in
    keeps_desk g.D.Disk _ _ c.self.view_is c.submit.new.self.desk (λ going.
    mid_in_step c.self.inside.desk.desk c.submit.new.self.desk (proposal_of c.args.edit) c.in-Ok.ensures.accepted g.D.Disk s going)

pub returns-in-Err-Edit-default-clause-refused : goal.returns-in-Err-Edit-default-clause-refused
returns-in-Err-Edit-default-clause-refused g c =
    let d = c.self.inside.desk.desk in let p = proposal_of c.args.edit in let e = c.in-Err-Edit-default in
    let refused = subst (λ (f : SubmitFault). Refuses d p f) e.field-0-0-is e.ensures.refused in
    rw (← c.self.view_is) (refused_known (head d) p e.fault refused.1)

pub returns-in-Ok-clause-any_moment : goal.returns-in-Ok-clause-any_moment
returns-in-Ok-clause-any_moment g c =
    let i = c.self.inside in stays_put g.D.Disk _ _ c.self.view_is c.stays.ensures.still
    (record { half = i.store; desk = c.submit.new.self.desk; stopped = i.is_stopped; owes = i.is_due }) refl

pub returns-in-Err-Edit-default-clause-any_moment : goal.returns-in-Err-Edit-default-clause-any_moment
returns-in-Err-Edit-default-clause-any_moment g c =
    let i = c.self.inside in stays_put g.D.Disk _ _ c.self.view_is c.stays.ensures.still
    (record { half = i.store; desk = c.submit.new.self.desk; stopped = i.is_stopped; owes = i.is_due }) refl

pub returns-in-Err-Memory-default-clause-any_moment : goal.returns-in-Err-Memory-default-clause-any_moment
returns-in-Err-Memory-default-clause-any_moment g c =
    let i = c.self.inside in stays_put g.D.Disk _ _ c.self.view_is c.stays.ensures.still
    (record { half = i.store; desk = c.submit.new.self.desk; stopped = i.is_stopped; owes = i.is_due }) refl
