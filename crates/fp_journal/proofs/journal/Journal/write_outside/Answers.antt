use Rattle.std.specs.Result.{is_err}
use Rattle.std.proofs.Common.{rules, refl, ap, length, sym, subst, inr}
use Rattle.fp_journal.specs.State.{JournalState, Outside, begun_of}
use Rattle.fp_gate.proofs.Opening.{written_within}
use Rattle.fp_journal.proofs.Steps as steps
use Rattle.fp_journal.proofs.journal.Journal.write_outside.Goals as goal

pub invariant_of-self : goal.invariant_of-self
invariant_of-self g c =
    let D = g.D.Disk in let m = g.met.D.Disk in let w = c.write_at.ensures in let new = c.write_at.new.self.disk in
    let out = subst (λ (k : JournalState g.row.D.Denot). Outside k.slot c.args.at (length c.args.from.now))
    (sym c.self.view_is) c.requires in
    rw (w.name, c.replace-held.ensures.after, c.failed-failed.ensures) (
      steps.outside_failed D m.present m.only_now c.self.invariant.0 new c.args.at c.args.from.now out
          (begun_of c.self.inside.held) (steps.begun_is c.self.inside.held) w.honest.1
          (λ h. w.failed h (search rules)),
      tt,
    )

pub returns-in_err-write_at-clause-kept : goal.returns-in_err-write_at-clause-kept
returns-in_err-write_at-clause-kept g c =
    let D = g.D.Disk in let m = g.met.D.Disk in let w = c.write_at.ensures in
    let out = subst (λ (k : JournalState g.row.D.Denot). Outside k.slot c.args.at (length c.args.from.now))
    (sym c.self.view_is) c.requires in
    rw (← c.self.view_is) (steps.outside_kept D m.present m.only_now c.self.invariant.0 (refl, refl, refl, w.name)
    w.honest (search rules) c.args.at c.args.from.now w.time (λ h. w.failed h (ap is_err c.in_err-write_at.was))
    (λ h. w.partly h (ap is_err c.in_err-write_at.was)) out)

pub invariant_of-self-2 : goal.invariant_of-self-2
invariant_of-self-2 g c =
    let D = g.D.Disk in let m = g.met.D.Disk in let w = c.write_at.ensures in let new = c.write_at.new.self.disk in
    let out = subst (λ (k : JournalState g.row.D.Denot). Outside k.slot c.args.at (length c.args.from.now))
    (sym c.self.view_is) c.requires in
    rw (w.name, c.replace-held.ensures.value) (
      steps.outside_done D m.present m.only_now c.self.invariant.0 new c.args.at c.args.from.now out w.honest.1
          c.in_ok-write_at.ensures.written c.in_ok-write_at.ensures.unsynced,
      steps.held_stays D.honest D.moment c.self.inside.disk.disk new c.self.inside.disk.name c.self.inside.end
          c.self.inside.held w.honest.1 (λ h. (w.time h).later) c.self.invariant.1,
    )

pub returns-clause-kept : goal.returns-clause-kept
returns-clause-kept g c =
    let D = g.D.Disk in let m = g.met.D.Disk in let w = c.in_ok-write_at.ensures in
    let out = subst (λ (k : JournalState g.row.D.Denot). Outside k.slot c.args.at (length c.args.from.now))
    (sym c.self.view_is) c.requires in
    rw (← c.self.view_is) (steps.outside_kept D m.present m.only_now c.self.invariant.0 (refl, refl, refl, w.name)
    w.honest (search rules) c.args.at c.args.from.now w.time (λ h. inr (w.unsynced h))
    (λ h. written_within _ c.args.from.now (D.bytes c.write_at.new.self.disk) c.args.at (w.written h)) out)
