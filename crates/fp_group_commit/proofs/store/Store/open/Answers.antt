use Rattle.std.proofs.Common.{inr, sym, ap, subst, ◌∙◌}
use Rattle.fp_edit.specs.Flags.{State}
use Rattle.fp_recovery.specs.Durable.{IsDurable}
use Rattle.fp_recovery.specs.Stands.{StandsFor}
use Rattle.fp_recovery.proofs.Kept.{settled_sure}
use Rattle.fp_recovery.proofs.One.{stands_one}
use Rattle.fp_recovery.proofs.Refused.{unless_wanting}
use Rattle.fp_group_commit.proofs.store.Store.open.Goals as goal

pub returns-in-Err-clause-refused : goal.returns-in-Err-clause-refused
returns-in-Err-clause-refused g c = λ h. unless_wanting (g.D.Disk.bytes c.args.disk) c.in-Err.refused.0 (c.in-Err.ensures.fault h)

pub returns-clause-stands : goal.returns-clause-stands
returns-clause-stands g c = λ h. subst (λ (s : State). StandsFor (g.D.Disk.bytes c.args.disk) s)
    (sym c.adopt.ensures.fresh.start) (c.in-Ok.ensures.stands h)

pub returns-clause-place : goal.returns-clause-place
returns-clause-place g c = λ h.
    let b = g.D.Disk.bytes c.args.disk in
    rw (c.adopt.ensures.fresh.start, c.adopt.ensures.over.place) (c.in-Ok.ensures.place h)

pub returns-clause-slots : goal.returns-clause-slots
returns-clause-slots g c = λ h.
    let over = c.adopt.ensures.over in
    rw (over.place, over.other, over.version, over.generation) (c.in-Ok.ensures.slots h)

pub returns-clause-only : goal.returns-clause-only
returns-clause-only g c = λ h other stands. stands_one (g.D.Disk.bytes c.args.disk) other _ stands
    (c.in-Ok.ensures.stands h) ∙ sym c.adopt.ensures.fresh.start

pub returns-clause-sure : goal.returns-clause-sure
returns-clause-sure g c = λ h.
    let D = g.D.Disk in
    let disk = ap D.unsynced c.adopt.ensures.over.disk in
    subst (λ (s : State). IsDurable (D.unsynced c.adopt.result.0.disk) s) (sym c.adopt.ensures.fresh.start)
    (settled_sure (D.unsynced c.adopt.result.0.disk) (D.bytes c.args.disk) _ (disk ∙ c.in-Ok.ensures.all_synced h)
    (c.in-Ok.ensures.stands h))

pub returns-in-Err-clause-same : goal.returns-in-Err-clause-same
returns-in-Err-clause-same g c = c.in-Err.ensures.opens.same

pub returns-in-Err-clause-any_moment : goal.returns-in-Err-clause-any_moment
returns-in-Err-clause-any_moment g c = c.in-Err.ensures.opens.word.any_moment

pub returns-in-Err-clause-honest : goal.returns-in-Err-clause-honest
returns-in-Err-clause-honest g c = c.in-Err.ensures.opens.word.honest

pub returns-in-Err-clause-called : goal.returns-in-Err-clause-called
returns-in-Err-clause-called g c = c.in-Err.ensures.opens.called

pub returns-in-Err-clause-cause : goal.returns-in-Err-clause-cause
returns-in-Err-clause-cause g c = c.in-Err.ensures.opens.cause

pub returns-in-Err-clause-memory : goal.returns-in-Err-clause-memory
returns-in-Err-clause-memory g c = c.in-Err.ensures.opens.memory

pub returns-clause-same : goal.returns-clause-same
returns-clause-same g c = rw c.adopt.ensures.over.disk c.in-Ok.ensures.opens.same

pub returns-clause-any_moment : goal.returns-clause-any_moment
returns-clause-any_moment g c = rw c.adopt.ensures.over.disk c.in-Ok.ensures.opens.word.any_moment

pub returns-clause-honest : goal.returns-clause-honest
returns-clause-honest g c = rw c.adopt.ensures.over.disk c.in-Ok.ensures.opens.word.honest

pub returns-clause-called : goal.returns-clause-called
returns-clause-called g c = rw c.adopt.ensures.over.disk c.in-Ok.ensures.opens.called

pub returns-clause-no_failure : goal.returns-clause-no_failure
returns-clause-no_failure g c = rw c.adopt.ensures.over.disk c.in-Ok.ensures.opens.no_failure

pub returns-in_default-clause-same : goal.returns-in_default-clause-same
returns-in_default-clause-same g c = rw c.into_disk.ensures.disk c.in-Ok.ensures.opens.same

pub returns-in_default-clause-any_moment : goal.returns-in_default-clause-any_moment
returns-in_default-clause-any_moment g c = rw c.into_disk.ensures.disk c.in-Ok.ensures.opens.word.any_moment

pub returns-in_default-clause-honest : goal.returns-in_default-clause-honest
returns-in_default-clause-honest g c = rw c.into_disk.ensures.disk c.in-Ok.ensures.opens.word.honest

pub returns-in_default-clause-called : goal.returns-in_default-clause-called
returns-in_default-clause-called g c = rw c.into_disk.ensures.disk (inr c.in-Ok.ensures.opens.called)

pub returns-in_default-clause-memory : goal.returns-in_default-clause-memory
returns-in_default-clause-memory g c = rw c.into_disk.ensures.disk (λ e. c.in-Ok.ensures.opens.no_failure)
