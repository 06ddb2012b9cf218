use Rattle.std.proofs.Common.{◌≡◌, sym, ap, subst, ◌∙◌}
use Rattle.fp_edit.specs.Flags.{State}
use Rattle.fp_group_commit.specs.Store.{StoreState}
use Rattle.fp_recovery.specs.Stands.{StandsFor}
use Rattle.fp_session.specs.Session.{disk_of}
use Rattle.fp_session.proofs.disk_session.DiskSession.open.Goals as goal

pub returns-in-Ok-new-clause-stands : goal.returns-in-Ok-new-clause-stands
returns-in-Ok-new-clause-stands g c =
    λ h. subst (λ (s : State). StandsFor (g.D.Disk.bytes c.args.disk) s) (sym c.in-Ok-new.ensures.flags)
    (c.in-Ok.ensures.stands h)

pub returns-in-Ok-new-clause-only : goal.returns-in-Ok-new-clause-only
returns-in-Ok-new-clause-only g c = λ h other stands. c.in-Ok.ensures.only h other stands ∙ sym c.in-Ok-new.ensures.flags

pub returns-in-Ok-new-clause-honest : goal.returns-in-Ok-new-clause-honest
returns-in-Ok-new-clause-honest g c =
    let D = g.D.Disk in let at : disk_of c.in-Ok-new.session ≡ c.in-Ok.opened.0.disk =
    ap (λ (s : StoreState g.row.D.Denot). s.disk) c.in-Ok-new.ensures.made.0 in
    (λ h. subst D.honest (sym at) (c.in-Ok.ensures.honest.0 h), λ h. c.in-Ok.ensures.honest.1 (subst D.honest at h))

pub returns-in-Err-new-clause-same : goal.returns-in-Err-new-clause-same
returns-in-Err-new-clause-same g c = λ h.
    let D = g.D.Disk in
    ap D.bytes c.into_disk.ensures.disk ∙
    ap (λ (s : StoreState g.row.D.Denot). D.bytes s.disk) c.in-Err-new.ensures.given_back ∙ c.in-Ok.ensures.same h

pub returns-in-Err-new-clause-honest : goal.returns-in-Err-new-clause-honest
returns-in-Err-new-clause-honest g c =
    let D = g.D.Disk in
    let at : c.into_disk.result ≡ c.in-Ok.opened.0.disk = c.into_disk.ensures.disk ∙
    ap (λ (s : StoreState g.row.D.Denot). s.disk) c.in-Err-new.ensures.given_back in
    (λ h. subst D.honest (sym at) (c.in-Ok.ensures.honest.0 h), λ h. c.in-Ok.ensures.honest.1 (subst D.honest at h))
