use Rattle.std.proofs.Common.{ℕ, rules, ◌≡◌, sym, ◌∙◌, subst, arith, refl}
use Rattle.std.proofs.lemmas.Result.{err_from_is_err_and}
use Rattle.fp_gate.specs.Gates.{IsOpen}
use Rattle.fp_slots.specs.declared.held.Held.{Held}
use Rattle.fp_slots.specs.State.{IsHeld}
use Rattle.fp_slots.specs.declared.slots.Step.TheVariants.{SyncOpen}
use Rattle.fp_slots.proofs.Exits.{keeps_ok}
use Rattle.fp_slots.proofs.Fronts.{front_long}
use Rattle.fp_slots.proofs.Steps as steps
use Rattle.fp_slots.proofs.slots.Slots.switch.Goals as goal

pub invariant_of-self : goal.invariant_of-self
invariant_of-self g c =
    let D = g.D.Disk in let m = g.met.D.Disk in let s = c.self.inside in let w = c.in_err-synced.ensures in
    let a = steps.at_step D m.counts_now m.present c.self.view_is c.self.invariant.0 c.requires.live
    c.requires.step in
    let t = steps.called a w.kept w.bodies w.phase w.begun in (
      steps.broke t (steps.switching t),
      steps.held_on D s.journal c.sync.new.self s.other.start s.held (steps.not_open a (λ e. absurd (cc e)))
          c.self.invariant.1,
      c.self.invariant.2,
    )

pub returns-in_err-synced : goal.returns-in_err-synced
returns-in_err-synced g c =
    let D = g.D.Disk in let m = g.met.D.Disk in let w = c.in_err-synced.ensures in
    let a = steps.at_step D m.counts_now m.present c.self.view_is c.self.invariant.0 c.requires.live
    c.requires.step in
    let t = steps.called a w.kept w.bodies w.phase w.begun in
    let p = err_from_is_err_and c.from_residual.result c.from_residual.ensures.1 in
    let k = steps.kept_err t {step = SyncOpen} (steps.switching t) in
    rw (p.1, ← c.self.view_is) (record {
      switched = tt;
      begun = tt;
      turned = tt;
      broken = (k.same, a.is, w.phase.1);
      left = refl;
      call =
          k.call;
      called = w.called;
    })

pub switch-requires-clause-quiet : goal.switch-requires-clause-quiet
switch-requires-clause-quiet g c =
    let D = g.D.Disk in let m = g.met.D.Disk in let w = c.in_ok-synced.ensures in
    let a = steps.at_step D m.counts_now m.present c.self.view_is c.self.invariant.0 c.requires.live
    c.requires.step in
    steps.new_quiet (steps.called a w.kept w.bodies w.phase w.begun) (λ h. (w.same_bytes h, w.durable h))

pub invariant_of-self-2 : goal.invariant_of-self-2
invariant_of-self-2 g c =
    let D = g.D.Disk in let m = g.met.D.Disk in let w = c.in_ok-synced.ensures in
    let a = steps.at_step D m.counts_now m.present c.self.view_is c.self.invariant.0 c.requires.live
    c.requires.step in
    rw c.replace.ensures.after (
      steps.switched (steps.called a w.kept w.bodies w.phase w.begun)
          (λ h. (w.same_bytes h, w.durable h)) c.switch.new.self c.slot-old.result
          (c.slot-old.ensures.slot ∙ w.kept.same.1) c.switch.ensures.slot.0 (search rules)
          (c.switch.ensures.begins.1, c.switch.ensures.begins.2) c.switch.ensures.disk.0,
      tt,
      c.self.invariant.2,
    )

pub returns-clause-call : goal.returns-clause-call
returns-clause-call g c =
    let D = g.D.Disk in let m = g.met.D.Disk in let w = c.in_ok-synced.ensures in
    let a = steps.at_step D m.counts_now m.present c.self.view_is c.self.invariant.0 c.requires.live
    c.requires.step in
    rw (← c.self.view_is, c.switch.ensures.disk.0) (keeps_ok (steps.switching (steps.called a w.kept w.bodies w.phase w.begun)))

pub seal_outside-gate-requires-clause-open : goal.seal_outside-gate-requires-clause-open
seal_outside-gate-requires-clause-open g c =
    let D = g.D.Disk in let m = g.met.D.Disk in let s = c.self.inside in let w = c.in_ok-synced.ensures in
    let a = steps.at_step D m.counts_now m.present c.self.view_is c.self.invariant.0 c.requires.live
    c.requires.step in
    let at_is : c.in-SyncOpen.gate.at ≡ s.other.start =
    subst (λ (k : Held g.row.D.Denot). IsHeld D.honest D.moment s.journal s.other.start k)
    (sym c.replace.ensures.value ∙ c.in-SyncOpen.is) c.self.invariant.1 in
    let sure = steps.gate_sure (steps.called a w.kept w.bodies w.phase w.begun) (λ h. (w.same_bytes h, w.durable h)) in
    λ h. subst (λ (k : ℕ). IsOpen (D.unsynced c.sync.new.self.disk) k) (sym at_is)
    (steps.firm_open (D.unsynced c.sync.new.self.disk) s.other.start (sure h))

pub switch-requires-clause-within : goal.switch-requires-clause-within
switch-requires-clause-within g c =
    let D = g.D.Disk in let m = g.met.D.Disk in let q = c.self.inside in
    let a = steps.at_step D m.counts_now m.present c.self.view_is c.self.invariant.0 c.requires.live
    c.requires.step in
    let plan = steps.plan_is a in let fits = plan.fits in
    let size = front_long q.planned.items q.ended c.self.invariant.2.there in omega (arith, fits, size)
