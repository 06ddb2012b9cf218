use Rattle.std.proofs.Common.{refl, sym, ap, subst, ◌∙◌, ⊎_elim}
use Rattle.std.proofs.lemmas.Result.{err_from_is_err_and}
use Rattle.fp_layout.specs.Size.{other_side}
use Rattle.fp_slots.specs.State.{IsStill}
use Rattle.fp_slots.specs.declared.slots.Step.{Step}
use Rattle.fp_slots.specs.declared.slots.Step.TheVariants.{SyncOpen}
use Rattle.fp_compaction.specs.Steps.{next_left, next_step}
use Rattle.fp_compaction.proofs.Kept as kept
use Rattle.fp_compaction.proofs.Stepping as steps
use Rattle.fp_compaction.proofs.steps.finish.Goals as goal

pub returns-in_err-switch-clause-stands : goal.returns-in_err-switch-clause-stands
returns-in_err-switch-clause-stands g c =
    let w = c.switch.ensures in steps.either_leaves g.D.Disk c.args.slots.now c.switch.new.self w.call

pub returns-clause-stands : goal.returns-clause-stands
returns-clause-stands g c =
    let w = c.switch.ensures in steps.either_leaves g.D.Disk c.args.slots.now c.switch.new.self w.call

pub returns-in_err-switch-clause-on : goal.returns-in_err-switch-clause-on
returns-in_err-switch-clause-on g c =
    let p = err_from_is_err_and c.from_residual.result c.from_residual.ensures.1 in
    let D = g.D.Disk in let old = c.args.slots.now in let w = c.switch.ensures in let new = c.switch.new.self in
    let broken = c.in_err-switch.ensures.broken in
    rw p.1 (record {
      taken = record {
        stands = steps.late_leaves D old new c.requires.step tt (steps.either_leaves D old new w.call);
        kept = λ h size s k late. steps.slots_kept D old new w.call.apart broken.0 h size s k;
        honest = w.call.word.honest;
        called = steps.called_at D.calls old new c.requires.step w.called;
      };
      step = (tt, broken.1 ∙ sym c.requires.step);
      left = tt;
      stays = tt;
      turned = tt;
      no_failure = tt;
      broken = record { slots = broken.0; left = w.left; failed = broken.2; cause = c.in_err-switch.ensures.call.cause.ill refl };
    })

pub returns-clause-on : goal.returns-clause-on
returns-clause-on g c =
    let D = g.D.Disk in let old = c.args.slots.now in let w = c.switch.ensures in let new = c.switch.new.self in
    let ok = c.in_ok-switch.ensures in record {
      taken = record {
        stands = steps.late_leaves D old new c.requires.step tt (steps.either_leaves D old new w.call);
        kept = λ h size s k late. (
          other_side k.0,
          kept.turned (D.unsynced old.journal.disk) old size k.0 s k.1 D.moment D.crash_states_since D.unsynced
              old.journal.disk new.journal.disk refl (w.call.apart h) new
              (late (steps.is_late old.step SyncOpen c.requires.step tt)) ok.switched.0 ok.switched.1 ok.switched.2
              ok.turned.0 ok.turned.2,
        );
        honest = w.call.word.honest;
        called = steps.called_at D.calls old new c.requires.step w.called;
      };
      step = (ok.turned.4 ∙ sym (ap (λ (q : Step). next_step q old.left) c.requires.step), tt);
      left = w.left ∙ sym (ap (λ (q : Step). next_left q old.left) c.requires.step);
      stays = λ off. absurd (off c.requires.step);
      turned = λ at. record {
        mine = ok.switched.0;
        its = ok.turned.0;
        generation = ok.turned.1;
        version = ok.turned.2;
        may_open = ok.turned.3;
        still = ⊎_elim (λ e. e) (λ e. absurd (c.requires.live e))
            (subst (λ (q : Step). IsStill q old.journal.phase) c.requires.step c.step.ensures.still);
        phase = ok.switched.3;
        begun = ok.begun;
        room = steps.room_turned old new ok.switched.0 ok.switched.1 ok.switched.2;
      };
      no_failure = ok.call.cause.well refl;
      broken = tt;
    }
