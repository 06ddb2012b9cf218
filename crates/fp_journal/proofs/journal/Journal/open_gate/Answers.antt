use Rattle.std.proofs.Common.{rules, refl, ◌≡◌, ◌+◌, ◌∷◌, [], ℕ, length, ap, sym, subst, ◌∙◌, arith, inr}
use Rattle.std.specs.Result.{is_err}
use Rattle.fp_gate.specs.Gates.{Gated, IsShut, StaysAsRead}
use Rattle.fp_journal.specs.State.{JournalState, phase_of}
use Rattle.fp_journal.specs.declared.journal.Phase.TheVariants.{BodySynced}
use Rattle.fp_gate.proofs.Opening.{written_within}
use Rattle.fp_journal.proofs.Steps as steps
use Rattle.fp_journal.proofs.journal.Journal.open_gate.Goals as goal
use Rattle.fp_gate.specs.declared.gate.TheConstants.{OPEN}

pub invariant_of-self : goal.invariant_of-self
invariant_of-self g c =
    let D = g.D.Disk in let m = g.met.D.Disk in let w = c.open.ensures.wrote in let new = c.open.new.disk.disk in
    let is : phase_of c.self.inside.held ≡ BodySynced = ap (λ (k : JournalState g.row.D.Denot). k.phase) c.self.view_is ∙ c.requires in
    let at : c.guarding-gate.result.at ≡ c.self.inside.end = ap (λ (x : Gated). x.at) (c.guarding-gate.ensures) ∙
    ap (λ (x : Gated). x.at) c.adopt.ensures in
    rw (w.name, c.replace.ensures.after) (
      steps.gate_failed D m.present m.only_now c.self.invariant.0 new is c.guarding-gate.result.at at w.honest.1
          (λ h. w.failed h (ap is_err c.in_err-open.was)),
      tt,
    )

pub returns-in_err-open-clause-kept : goal.returns-in_err-open-clause-kept
returns-in_err-open-clause-kept g c =
    let D = g.D.Disk in let m = g.met.D.Disk in let w = c.open.ensures.wrote in
    let is : phase_of c.self.inside.held ≡ BodySynced = ap (λ (k : JournalState g.row.D.Denot). k.phase) c.self.view_is ∙ c.requires in
    let at : c.guarding-gate.result.at ≡ c.self.inside.end = ap (λ (x : Gated). x.at) (c.guarding-gate.ensures) ∙
    ap (λ (x : Gated). x.at) c.adopt.ensures in
    rw (← c.self.view_is) (steps.gate_kept D m.present m.only_now c.self.invariant.0 (refl, refl, refl, w.name)
    w.honest (search rules) c.guarding-gate.result.at (OPEN ∷ []) w.time
    (λ h. w.failed h (ap is_err c.in_err-open.was)) (λ h. w.partly h (ap is_err c.in_err-open.was)) is at refl)

pub invariant_of-self-2 : goal.invariant_of-self-2
invariant_of-self-2 g c =
    let D = g.D.Disk in let m = g.met.D.Disk in let w = c.open.ensures.wrote in let new = c.open.new.disk.disk in
    let is : phase_of c.self.inside.held ≡ BodySynced = ap (λ (k : JournalState g.row.D.Denot). k.phase) c.self.view_is ∙ c.requires in
    let at : c.guarding-gate.result.at ≡ c.self.inside.end = ap (λ (x : Gated). x.at) (c.guarding-gate.ensures) ∙
    ap (λ (x : Gated). x.at) c.adopt.ensures in
    rw w.name (
      steps.gate_done D m.present m.only_now c.self.invariant.0 new is c.guarding-gate.result.at
          at w.honest.1 c.in_ok-open.ensures.wrote.written c.in_ok-open.ensures.wrote.unsynced,
      ap (λ (x : Gated). x.at) c.in_ok-open.ensures.gate ∙ at,
    )

pub returns-clause-kept : goal.returns-clause-kept
returns-clause-kept g c =
    let D = g.D.Disk in let m = g.met.D.Disk in let w = c.in_ok-open.ensures.wrote in
    let is : phase_of c.self.inside.held ≡ BodySynced = ap (λ (k : JournalState g.row.D.Denot). k.phase) c.self.view_is ∙ c.requires in
    let at : c.guarding-gate.result.at ≡ c.self.inside.end = ap (λ (x : Gated). x.at) (c.guarding-gate.ensures) ∙
    ap (λ (x : Gated). x.at) c.adopt.ensures in
    rw (← c.self.view_is) (steps.gate_kept D m.present m.only_now c.self.invariant.0 (refl, refl, refl, w.name)
    w.honest (search rules) c.guarding-gate.result.at (OPEN ∷ []) w.time (λ h. inr (w.unsynced h))
    (λ h. written_within _ (OPEN ∷ []) (D.bytes c.open.new.disk.disk) _ (w.written h)) is at refl)

pub returns-clause-reads : goal.returns-clause-reads
returns-clause-reads g c =
    let D = g.D.Disk in let m = g.met.D.Disk in let w = c.open.ensures.wrote in let new = c.open.new.disk.disk in
    let is : phase_of c.self.inside.held ≡ BodySynced = ap (λ (k : JournalState g.row.D.Denot). k.phase) c.self.view_is ∙ c.requires in
    let at : c.guarding-gate.result.at ≡ c.self.inside.end = ap (λ (x : Gated). x.at) (c.guarding-gate.ensures) ∙
    ap (λ (x : Gated). x.at) c.adopt.ensures in
    rw (← c.self.view_is) (steps.gate_reads D m.present m.only_now c.self.invariant.0 new is
    c.guarding-gate.result.at at c.in_ok-open.ensures.wrote.written c.in_ok-open.ensures.wrote.unsynced)

pub adopt-requires : goal.adopt-requires
adopt-requires g c =
    let D = g.D.Disk in let m = g.met.D.Disk in
    let is : phase_of c.self.inside.held ≡ BodySynced = ap (λ (k : JournalState g.row.D.Denot). k.phase) c.self.view_is ∙ c.requires in
    steps.gate_shut D m.present m.only_now c.self.invariant.0 is

pub open-requires-clause-shut : goal.open-requires-clause-shut
open-requires-clause-shut g c = λ h.
    let D = g.D.Disk in let m = g.met.D.Disk in
    let is : phase_of c.self.inside.held ≡ BodySynced = ap (λ (k : JournalState g.row.D.Denot). k.phase) c.self.view_is ∙ c.requires in
    let at : c.guarding-gate.result.at ≡ c.self.inside.end = ap (λ (x : Gated). x.at) (c.guarding-gate.ensures) ∙
    ap (λ (x : Gated). x.at) c.adopt.ensures in
    subst (λ (k : ℕ). IsShut (D.unsynced c.self.inside.disk.disk) k) (sym at)
    (steps.gate_shut D m.present m.only_now c.self.invariant.0 is h)

pub open-requires-clause-firm : goal.open-requires-clause-firm
open-requires-clause-firm g c = λ h.
    let D = g.D.Disk in let m = g.met.D.Disk in let inside = c.self.inside in let bytes = inside.in_flight in
    let is : phase_of c.self.inside.held ≡ BodySynced = ap (λ (k : JournalState g.row.D.Denot). k.phase) c.self.view_is ∙ c.requires in
    let len = c.len.ensures in let ok = bytes.ok.0 in let from = ap (λ (x : Gated). x.from) c.guarding-gate.ensures in
    let to : c.guarding-gate.result.to ≡ inside.end + 1 + length bytes.items =
    ap (λ (x : Gated). x.to) c.guarding-gate.ensures ∙
    ap (λ (n : ℕ). inside.end + 1 + n) (omega (arith, len, ok)) in
    let u = D.unsynced inside.disk.disk in let read = D.bytes inside.disk.disk in
    subst (λ (n : ℕ). StaysAsRead u read c.guarding-gate.result.from n) (sym to)
    (subst (λ (n : ℕ). StaysAsRead u read n (inside.end + 1 + length bytes.items)) (sym from)
    (steps.body_stays D m.present m.only_now c.self.invariant.0 is h))
