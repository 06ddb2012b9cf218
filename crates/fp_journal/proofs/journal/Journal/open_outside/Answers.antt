use Rattle.std.specs.Result.{is_err}
use Rattle.std.proofs.Common.{rules, refl, ap, [], ◌∷◌, sym, subst, inr}
use Rattle.fp_gate.specs.Gates.{StaysAsRead}
use Rattle.fp_gate.specs.declared.gate.TheConstants.{OPEN}
use Rattle.fp_journal.specs.State.{JournalState, Outside, begun_of}
use Rattle.fp_gate.proofs.Opening.{written_within}
use Rattle.fp_journal.proofs.Steps as steps
use Rattle.fp_journal.proofs.journal.Journal.open_outside.Goals as goal

pub open-requires-clause-firm : goal.open-requires-clause-firm
open-requires-clause-firm g c =
    let D = g.D.Disk in
    subst (λ (k : JournalState g.row.D.Denot). D.honest k.disk →
    StaysAsRead (D.unsynced k.disk) (D.bytes k.disk) c.args.gate.from c.args.gate.to) (sym c.self.view_is)
    c.requires.firm

pub invariant_of-self : goal.invariant_of-self
invariant_of-self g c =
    let D = g.D.Disk in let m = g.met.D.Disk in let w = c.open.ensures.wrote in let new = c.open.new.disk.disk in
    let out = subst (λ (k : JournalState g.row.D.Denot). Outside k.slot c.args.gate.at 1) (sym c.self.view_is) c.requires.outside in
    rw (w.name, c.replace-held.ensures.after, c.failed-failed.ensures) (
      steps.outside_failed D m.present m.only_now c.self.invariant.0 new c.args.gate.at (OPEN ∷ []) out
          (begun_of c.self.inside.held) (steps.begun_is c.self.inside.held) w.honest.1
          (λ h. w.failed h (search rules)),
      tt,
    )

pub returns-in_err-written-clause-kept : goal.returns-in_err-written-clause-kept
returns-in_err-written-clause-kept g c =
    let D = g.D.Disk in let m = g.met.D.Disk in let w = c.open.ensures.wrote in
    let out = subst (λ (k : JournalState g.row.D.Denot). Outside k.slot c.args.gate.at 1) (sym c.self.view_is) c.requires.outside in
    rw (← c.self.view_is) (steps.outside_kept D m.present m.only_now c.self.invariant.0 (refl, refl, refl, w.name)
    w.honest (search rules) c.args.gate.at (OPEN ∷ []) w.time (λ h. w.failed h (ap is_err c.in_err-written.was))
    (λ h. w.partly h (ap is_err c.in_err-written.was)) out)

pub invariant_of-self-2 : goal.invariant_of-self-2
invariant_of-self-2 g c =
    let D = g.D.Disk in let m = g.met.D.Disk in let w = c.open.ensures.wrote in let new = c.open.new.disk.disk in
    let out = subst (λ (k : JournalState g.row.D.Denot). Outside k.slot c.args.gate.at 1) (sym c.self.view_is) c.requires.outside in
    rw (w.name, c.replace-held.ensures.value) (
      steps.outside_done D m.present m.only_now c.self.invariant.0 new c.args.gate.at (OPEN ∷ []) out w.honest.1
          c.in_ok-written.ensures.wrote.written c.in_ok-written.ensures.wrote.unsynced,
      steps.held_stays D.honest D.moment c.self.inside.disk.disk new c.self.inside.disk.name c.self.inside.end
          c.self.inside.held w.honest.1 (λ h. (w.time h).later) c.self.invariant.1,
    )

pub returns-clause-kept : goal.returns-clause-kept
returns-clause-kept g c =
    let D = g.D.Disk in let m = g.met.D.Disk in let w = c.in_ok-written.ensures.wrote in
    let out = subst (λ (k : JournalState g.row.D.Denot). Outside k.slot c.args.gate.at 1) (sym c.self.view_is) c.requires.outside in
    rw (← c.self.view_is) (steps.outside_kept D m.present m.only_now c.self.invariant.0 (refl, refl, refl, w.name)
    w.honest (search rules) c.args.gate.at (OPEN ∷ []) w.time (λ h. inr (w.unsynced h))
    (λ h. written_within _ (OPEN ∷ []) (D.bytes c.open.new.disk.disk) c.args.gate.at (w.written h)) out)
