use Rattle.std.specs.Result.{is_err}
use Rattle.std.proofs.Common.{rules, refl, ap, inl, inr}
use Rattle.fp_journal.specs.State.{begun_of}
use Rattle.fp_journal.proofs.Steps as steps
use Rattle.fp_journal.proofs.journal.Journal.sync.Goals as goal

pub invariant_of-self : goal.invariant_of-self
invariant_of-self g c =
    let D = g.D.Disk in let m = g.met.D.Disk in let w = c.sync.ensures in let new = c.sync.new.self.disk in
    rw (w.name, c.replace-held.ensures.after, c.failed-failed.ensures) (
      steps.sync_failed D m.present m.only_now c.self.invariant.0 new (begun_of c.self.inside.held)
          (steps.begun_is c.self.inside.held) w.honest.1 (λ h. w.failed h (search rules)),
      tt,
    )

pub returns-in_err-synced-clause-kept : goal.returns-in_err-synced-clause-kept
returns-in_err-synced-clause-kept g c =
    let D = g.D.Disk in let m = g.met.D.Disk in let w = c.sync.ensures in
    rw (← c.self.view_is) (steps.sync_kept D m.present m.only_now c.self.invariant.0 (refl, refl, refl, w.name)
    w.honest (search rules) w.time (λ h. inl (w.failed h (ap is_err c.in_err-synced.was))) w.same)

pub invariant_of-self-2 : goal.invariant_of-self-2
invariant_of-self-2 g c =
    let D = g.D.Disk in let m = g.met.D.Disk in let w = c.sync.ensures in let new = c.sync.new.self.disk in
    rw (w.name, c.replace-held.ensures.value) (
      steps.sync_done D m.present m.only_now c.self.invariant.0 new w.honest.1 w.same c.in_ok-synced.ensures.durable,
      steps.held_stays D.honest D.moment c.self.inside.disk.disk new c.self.inside.disk.name c.self.inside.end
          c.self.inside.held w.honest.1 (λ h. (w.time h).later) c.self.invariant.1,
    )

pub returns-clause-firm : goal.returns-clause-firm
returns-clause-firm g c =
    let D = g.D.Disk in let m = g.met.D.Disk in let w = c.sync.ensures in let new = c.sync.new.self.disk in
    rw c.replace-held.ensures.value
    (steps.sync_secures D m.present m.only_now c.self.invariant.0 new w.honest.1 c.in_ok-synced.ensures.durable)

pub returns-clause-kept : goal.returns-clause-kept
returns-clause-kept g c =
    let D = g.D.Disk in let m = g.met.D.Disk in let w = c.in_ok-synced.ensures in
    rw (← c.self.view_is) (steps.sync_kept D m.present m.only_now c.self.invariant.0 (refl, refl, refl, w.name)
    w.honest (search rules) w.time (λ h. inr (w.durable h)) w.same)
