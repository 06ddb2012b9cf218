use Rattle.std.specs.Result.{is_err}
use Rattle.std.proofs.Common.{rules, refl, ap, ◌≡◌, ◌≤◌, ◌+◌, length, sym, ◌∙◌, subst, inr}
use Rattle.fp_journal.specs.Chain.{with_gate, body_of}
use Rattle.fp_journal.specs.State.{JournalState, phase_of, room}
use Rattle.fp_journal.specs.declared.journal.Phase.TheVariants.{Idle}
use Rattle.fp_gate.proofs.Opening.{written_within}
use Rattle.fp_journal.proofs.Steps as steps
use Rattle.fp_journal.proofs.journal.Journal.stage.Goals as goal

pub invariant_of-self : goal.invariant_of-self
invariant_of-self g c =
    let D = g.D.Disk in let m = g.met.D.Disk in let w = c.write_at.ensures in let new = c.write_at.new.self.disk in
    let is : phase_of c.self.inside.held ≡ Idle = ap (λ (k : JournalState g.row.D.Denot). k.phase) c.self.view_is ∙ c.requires.idle in
    let n = length c.deref.result.now in let written = c.into_bytes.result.items in
    rw w.name (
      steps.stage_failed D m.present m.only_now c.self.invariant.0 new is (body_of written) written n
          w.honest.1 (λ h. w.failed h (search rules)),
      tt,
    )

pub returns-in_err-write_at-clause-kept : goal.returns-in_err-write_at-clause-kept
returns-in_err-write_at-clause-kept g c =
    let D = g.D.Disk in let m = g.met.D.Disk in let w = c.write_at.ensures in
    let is : phase_of c.self.inside.held ≡ Idle = ap (λ (k : JournalState g.row.D.Denot). k.phase) c.self.view_is ∙ c.requires.idle in
    let shape : c.deref.result.now ≡ with_gate c.args.framed = c.deref.ensures.value ∙ c.into_bytes.ensures.bytes in
    let fits = subst (λ (k : JournalState g.row.D.Denot). length c.args.framed + 6 ≤ room k) (sym c.self.view_is)
    c.requires.room in
    rw (← c.self.view_is) (steps.stage_kept D m.present m.only_now c.self.invariant.0 (refl, refl, refl, w.name)
    w.honest (search rules) (c.self.inside.end + 1) c.deref.result.now w.time
    (λ h. w.failed h (ap is_err c.in_err-write_at.was)) (λ h. w.partly h (ap is_err c.in_err-write_at.was)) is
    refl c.args.framed shape fits)

pub invariant_of-self-2 : goal.invariant_of-self-2
invariant_of-self-2 g c =
    let D = g.D.Disk in let m = g.met.D.Disk in let w = c.write_at.ensures in let new = c.write_at.new.self.disk in
    let is : phase_of c.self.inside.held ≡ Idle = ap (λ (k : JournalState g.row.D.Denot). k.phase) c.self.view_is ∙ c.requires.idle in
    let n = length c.deref.result.now in let written = c.into_bytes.result.items in
    let shape : c.deref.result.now ≡ with_gate c.args.framed = c.deref.ensures.value ∙ c.into_bytes.ensures.bytes in
    let fits = subst (λ (k : JournalState g.row.D.Denot). length c.args.framed + 6 ≤ room k) (sym c.self.view_is) c.requires.room in
    let short = subst (λ (k : JournalState g.row.D.Denot). length c.args.framed ≤ k.slot.most) (sym c.self.view_is) c.requires.short in
    rw w.name (
      steps.stage_done D m.present m.only_now c.self.invariant.0 new is c.args.framed written
          c.deref.result.now c.into_bytes.ensures.bytes shape fits short w.honest.1 c.in_ok-write_at.ensures.written
          c.in_ok-write_at.ensures.unsynced,
      tt,
    )

pub returns-clause-kept : goal.returns-clause-kept
returns-clause-kept g c =
    let D = g.D.Disk in let m = g.met.D.Disk in let w = c.in_ok-write_at.ensures in
    let is : phase_of c.self.inside.held ≡ Idle = ap (λ (k : JournalState g.row.D.Denot). k.phase) c.self.view_is ∙ c.requires.idle in
    let shape : c.deref.result.now ≡ with_gate c.args.framed = c.deref.ensures.value ∙ c.into_bytes.ensures.bytes in
    let fits = subst (λ (k : JournalState g.row.D.Denot). length c.args.framed + 6 ≤ room k) (sym c.self.view_is)
    c.requires.room in
    rw (← c.self.view_is) (steps.stage_kept D m.present m.only_now c.self.invariant.0 (refl, refl, refl, w.name)
    w.honest (search rules) (c.self.inside.end + 1) c.deref.result.now w.time (λ h. inr (w.unsynced h))
    (λ h. written_within _ c.deref.result.now (D.bytes c.write_at.new.self.disk) _ (w.written h)) is refl
    c.args.framed shape fits)
