use Rattle.std.proofs.Common.{◌≡◌, ℕ, ◌+◌, List, [], ◌∷◌, drop, sym, subst, arith, refl}
use Rattle.std.proofs.lemmas.Result.{err_from_is_err_and}
use Rattle.std.proofs.lemmas.List.{length-drop}
use Rattle.std.specs.Prelude.{slice_range}
use Rattle.fp_disk.specs.Outcomes.{Written}
use Rattle.fp_gate.specs.Gates.{IsShut, StaysAsRead}
use Rattle.fp_slots.proofs.Fronts.{shut_size}
use Rattle.fp_gate.specs.declared.gate.TheConstants.{OPEN}
use Rattle.fp_slots.proofs.Steps as steps
use Rattle.fp_slots.proofs.slots.Slots.open_other.Goals as goal

pub gate_outside-requires : goal.gate_outside-requires
gate_outside-requires g c =
    let D = g.D.Disk in let m = g.met.D.Disk in let s = c.self.inside in
    let a = steps.at_step D m.counts_now m.present c.self.view_is c.self.invariant.0 c.requires.live
    c.requires.step in
    record { shut = λ h. steps.shut_gate (D.unsynced s.journal.disk) s.other.start (steps.beside_is a h).0 }

pub open_outside-requires-clause-shut : goal.open_outside-requires-clause-shut
open_outside-requires-clause-shut g c =
    let D = g.D.Disk in let m = g.met.D.Disk in let s = c.self.inside in
    let a = steps.at_step D m.counts_now m.present c.self.view_is c.self.invariant.0 c.requires.live
    c.requires.step in
    let at_is : c.guarding-gate.result.at ≡ s.other.start =
    rw (c.guarding-gate.ensures, c.gate_outside.ensures.gate) refl in
    λ h. subst (λ (k : ℕ). IsShut (D.unsynced s.journal.disk) k) (sym at_is)
    (steps.shut_gate (D.unsynced s.journal.disk) s.other.start (steps.beside_is a h).0)

pub open_outside-requires-clause-firm : goal.open_outside-requires-clause-firm
open_outside-requires-clause-firm g c =
    let D = g.D.Disk in let m = g.met.D.Disk in let s = c.self.inside in let j = s.journal in
    let a = steps.at_step D m.counts_now m.present c.self.view_is c.self.invariant.0 c.requires.live
    c.requires.step in
    let from_is : c.guarding-gate.result.from ≡ s.other.start + 1 = rw c.guarding-gate.ensures refl in
    let to_is : c.guarding-gate.result.to ≡ s.other.start + 1 + s.ended = rw c.guarding-gate.ensures refl in
    let shut : List ℕ = slice_range s.planned.items 0 (s.ended + 1) in let plan = steps.plan_is a in
    let size = (shut_size s.planned.items s.ended c.self.invariant.2.there plan.bytes_are).1 in
    let len = length-drop 1 shut in
    λ h. subst (λ (k : ℕ). StaysAsRead (D.unsynced j.disk) (D.bytes j.disk) k c.guarding-gate.result.to) (sym from_is)
    (steps.firm_stays (D.unsynced j.disk) (D.bytes j.disk) (s.other.start + 1) c.guarding-gate.result.to
    (drop 1 shut) (steps.beside_is a h).1 (m.present j.disk h) (omega (arith, to_is, len, size)))

pub invariant_of-self : goal.invariant_of-self
invariant_of-self g c =
    let D = g.D.Disk in let m = g.met.D.Disk in let s = c.self.inside in let w = c.in_err-open_outside.ensures in
    let a = steps.at_step D m.counts_now m.present c.self.view_is c.self.invariant.0 c.requires.live
    c.requires.step in
    let t = steps.opening_call a c.guarding-gate.result.at
    (rw (c.guarding-gate.ensures, c.gate_outside.ensures.gate) refl) w.kept w.bodies w.phase w.begun in
    rw c.replace.ensures.after (steps.broke_at t (steps.opening t), w.phase.1, c.self.invariant.2)

pub returns-in_err-open_outside : goal.returns-in_err-open_outside
returns-in_err-open_outside g c =
    let D = g.D.Disk in let m = g.met.D.Disk in let w = c.in_err-open_outside.ensures in
    let a = steps.at_step D m.counts_now m.present c.self.view_is c.self.invariant.0 c.requires.live
    c.requires.step in
    let t = steps.opening_call a c.guarding-gate.result.at
    (rw (c.guarding-gate.ensures, c.gate_outside.ensures.gate) refl) w.kept w.bodies w.phase w.begun in
    let p = err_from_is_err_and c.from_residual.result c.from_residual.ensures.1 in
    rw (p.1, ← c.self.view_is) (record {
      step = (tt, rw c.replace.ensures.after refl);
      left = refl;
      kept =
          steps.kept_err t (steps.opening t);
      called = w.called;
    })

pub invariant_of-self-2 : goal.invariant_of-self-2
invariant_of-self-2 g c =
    let D = g.D.Disk in let m = g.met.D.Disk in let s = c.self.inside in let w = c.in_ok-open_outside.ensures in
    let a = steps.at_step D m.counts_now m.present c.self.view_is c.self.invariant.0 c.requires.live
    c.requires.step in
    let at_is : c.guarding-gate.result.at ≡ s.other.start = rw (c.guarding-gate.ensures, c.gate_outside.ensures.gate) refl in
    let t = steps.opening_call a c.guarding-gate.result.at at_is w.kept w.bodies w.phase w.begun in (
      steps.opened t (λ h. subst (λ (k : ℕ). Written (D.bytes s.journal.disk) k (OPEN ∷ [])
          (D.bytes c.open_outside.new.self.disk)) at_is (w.written h).0),
      rw w.gate at_is,
      c.self.invariant.2,
    )

pub returns : goal.returns
returns g c =
    let D = g.D.Disk in let m = g.met.D.Disk in let w = c.in_ok-open_outside.ensures in
    let a = steps.at_step D m.counts_now m.present c.self.view_is c.self.invariant.0 c.requires.live
    c.requires.step in
    let t = steps.opening_call a c.guarding-gate.result.at
    (rw (c.guarding-gate.ensures, c.gate_outside.ensures.gate) refl) w.kept w.bodies w.phase w.begun in
    rw (← c.self.view_is) (record { step = (refl, tt); left = refl; kept = steps.kept_ok t (steps.opening t); called = w.called })
