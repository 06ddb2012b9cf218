use Rattle.std.proofs.Common.{refl}
use Rattle.std.proofs.lemmas.Result.{err_from_is_err_and}
use Rattle.fp_slots.specs.State.{step_of}
use Rattle.fp_slots.proofs.Exits.{answers_err, answers_ok}
use Rattle.fp_slots.proofs.Steps as steps
use Rattle.fp_slots.proofs.EarlySteps as early_steps
use Rattle.fp_slots.proofs.slots.Slots.stage.Goals as goal

pub invariant_of-self : goal.invariant_of-self
invariant_of-self g c =
    let D = g.D.Disk in let m = g.met.D.Disk in let s = c.self.inside in let w = c.in_err-stage.ensures in
    let a = steps.at_early D m.counts_now m.present c.self.view_is c.self.invariant.0 (λ e. absurd (cc e))
    c.requires.early c.requires.idle in (
      early_steps.early_broke a w.kept (early_steps.sealed_front a) (λ o e. rw (w.begun, w.bodies.0) e) w.phase.1,
      steps.held_on D s.journal c.stage.new.self s.other.start s.held
          (steps.early_not_open (step_of s.held) a.early) c.self.invariant.1,
      c.self.invariant.2,
    )

pub returns-in_err-stage : goal.returns-in_err-stage
returns-in_err-stage g c =
    let D = g.D.Disk in let m = g.met.D.Disk in let w = c.in_err-stage.ensures in
    let a = steps.at_early D m.counts_now m.present c.self.view_is c.self.invariant.0 (λ e. absurd (cc e))
    c.requires.early c.requires.idle in
    let p = err_from_is_err_and c.from_residual.result c.from_residual.ensures.1 in
    rw (p.1, ← c.self.view_is) (record {
      kept = early_steps.keeps_batch a w.kept (early_steps.sealed_front a) c.stage.new.self
          (steps.same_slot c.stage.new.self) refl (answers_err w.kept.call.cause);
      bodies = w.bodies;
      phase =
          (tt, w.phase.1);
      begun = w.begun;
      called = w.called;
    })

pub invariant_of-self-2 : goal.invariant_of-self-2
invariant_of-self-2 g c =
    let D = g.D.Disk in let m = g.met.D.Disk in let s = c.self.inside in let w = c.in_ok-stage.ensures in
    let a = steps.at_early D m.counts_now m.present c.self.view_is c.self.invariant.0 (λ e. absurd (cc e))
    c.requires.early c.requires.idle in (
      early_steps.early_done a w.kept (early_steps.sealed_front a) c.stage.new.self (steps.same_slot c.stage.new.self)
          refl w.phase.0 (λ e. absurd (cc e)) w.begun refl,
      steps.held_on D s.journal c.stage.new.self s.other.start s.held
          (steps.early_not_open (step_of s.held) a.early) c.self.invariant.1,
      c.self.invariant.2,
    )

pub returns : goal.returns
returns g c =
    let D = g.D.Disk in let m = g.met.D.Disk in let w = c.in_ok-stage.ensures in
    let a = steps.at_early D m.counts_now m.present c.self.view_is c.self.invariant.0 (λ e. absurd (cc e))
    c.requires.early c.requires.idle in
    rw (← c.self.view_is) (record {
      kept =
          early_steps.keeps_batch a w.kept (early_steps.sealed_front a) c.stage.new.self
          (steps.same_slot c.stage.new.self) refl (answers_ok w.kept.call.cause);
      bodies = w.bodies;
      phase =
          (w.phase.0, tt);
      begun = w.begun;
      called = w.called;
    })
