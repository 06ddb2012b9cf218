use Rattle.std.proofs.Common.{refl, false, ◌≡◌, ◌∙◌, subst, arith}
use Rattle.std.proofs.lemmas.Result.{err_from_is_err_and}
use Rattle.fp_journal.specs.State.{SecuresAt}
use Rattle.fp_journal.specs.declared.journal.Phase.{Phase}
use Rattle.fp_journal.specs.declared.journal.Phase.TheVariants.{Staged}
use Rattle.fp_slots.specs.State.{step_of}
use Rattle.fp_slots.proofs.Exits.{answers_err, answers_ok}
use Rattle.fp_slots.proofs.Steps as steps
use Rattle.fp_slots.proofs.EarlySteps as early_steps
use Rattle.fp_slots.proofs.slots.Slots.sync_staged.Goals as goal

pub invariant_of-self : goal.invariant_of-self
invariant_of-self g c =
    let D = g.D.Disk in let m = g.met.D.Disk in let s = c.self.inside in let w = c.in_err-synced.ensures in
    let a = steps.at_early D m.counts_now m.present c.self.view_is c.self.invariant.0 (λ e. absurd (cc e))
    c.requires.early c.requires.staged in
    let begun : s.journal.begun ≡ false = early_steps.begun_is a in (
      early_steps.early_broke a (early_steps.synced w.kept a.phase) (early_steps.sealed_front a)
          (λ o e. rw (w.begun ∙ begun, w.bodies.0) e) w.phase.1,
      steps.held_on D s.journal c.sync.new.self s.other.start s.held
          (steps.early_not_open (step_of s.held) a.early) c.self.invariant.1,
      c.self.invariant.2,
    )

pub returns-in_err-synced : goal.returns-in_err-synced
returns-in_err-synced g c =
    let D = g.D.Disk in let m = g.met.D.Disk in let w = c.in_err-synced.ensures in
    let a = steps.at_early D m.counts_now m.present c.self.view_is c.self.invariant.0 (λ e. absurd (cc e))
    c.requires.early c.requires.staged in
    let p = err_from_is_err_and c.from_residual.result c.from_residual.ensures.1 in
    let begun : c.self.inside.journal.begun ≡ false = early_steps.begun_is a in
    rw (p.1, ← c.self.view_is) (record {
      kept = early_steps.keeps_batch a (early_steps.synced w.kept a.phase) (early_steps.sealed_front a)
          c.sync.new.self (steps.same_slot c.sync.new.self) refl (answers_err w.kept.call.cause);
      bodies =
          w.bodies;
      phase = (tt, w.phase.1);
      begun = w.begun ∙ begun;
      called = w.called;
    })

pub invariant_of-self-2 : goal.invariant_of-self-2
invariant_of-self-2 g c =
    let D = g.D.Disk in let m = g.met.D.Disk in let s = c.self.inside in let w = c.in_ok-synced.ensures in
    let v = c.body_synced.ensures in
    let a = steps.at_early D m.counts_now m.present c.self.view_is c.self.invariant.0 (λ e. absurd (cc e))
    c.requires.early c.requires.staged in (
      early_steps.early_done a (early_steps.synced w.kept a.phase) (early_steps.sealed_front a) c.body_synced.new.self
          v.same v.disk v.phase.0 (λ e. absurd (cc e)) v.phase.1 refl,
      steps.held_on D s.journal c.body_synced.new.self s.other.start s.held
          (steps.early_not_open (step_of s.held) a.early) c.self.invariant.1,
      c.self.invariant.2,
    )

pub returns : goal.returns
returns g c =
    let D = g.D.Disk in let m = g.met.D.Disk in let w = c.in_ok-synced.ensures in let v = c.body_synced.ensures in
    let a = steps.at_early D m.counts_now m.present c.self.view_is c.self.invariant.0 (λ e. absurd (cc e))
    c.requires.early c.requires.staged in
    let k = early_steps.keeps_batch a (early_steps.synced w.kept a.phase) (early_steps.sealed_front a)
    c.body_synced.new.self v.same v.disk (answers_ok w.kept.call.cause) in
    rw (← c.self.view_is) (record {
      kept = k;
      bodies = (v.bodies.0 ∙ w.bodies.0, v.bodies.1 ∙ w.bodies.1);
      phase =
          (v.phase.0, tt);
      begun = v.phase.1;
      called = rw v.disk w.called;
    })

pub body_synced-requires : goal.body_synced-requires
body_synced-requires g c =
    let D = g.D.Disk in let m = g.met.D.Disk in let j = c.sync.new.self in let w = c.in_ok-synced.ensures in
    let a = steps.at_early D m.counts_now m.present c.self.view_is c.self.invariant.0 (λ e. absurd (cc e))
    c.requires.early c.requires.staged in
    let now : j.phase ≡ Staged = w.phase.0 ∙ a.phase in
    record {
      staged = now;
      token = (w.token.0, λ h. let e = w.token.1 in omega (arith, e));
      firm = λ h o left. subst (λ (p : Phase). SecuresAt p j.begun j.slot j.front j.sealed j.staged o) now (w.firm h o left);
    }
