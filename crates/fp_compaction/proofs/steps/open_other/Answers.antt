use Rattle.std.proofs.Common.{◌≡◌}
use Rattle.fp_slots.specs.declared.slots.Step.TheVariants.{Open, SyncOpen}
use Rattle.fp_compaction.proofs.Stepping as steps
use Rattle.fp_compaction.proofs.steps.open_other.Goals as goal

pub returns-clause-stands : goal.returns-clause-stands
returns-clause-stands g c =
    let w = c.open_other.ensures in steps.either_leaves g.D.Disk c.args.slots.now c.open_other.new.self w.kept.call

pub returns-clause-kept : goal.returns-clause-kept
returns-clause-kept g c =
    let w = c.open_other.ensures in steps.slots_kept g.D.Disk c.args.slots.now c.open_other.new.self w.kept.call.apart w.kept.same

pub returns-clause-on : goal.returns-clause-on
returns-clause-on g c =
    let D = g.D.Disk in let old = c.args.slots.now in let w = c.open_other.ensures in let new = c.open_other.new.self in
    steps.steps_on D old new c.open_other.result c.requires.step (λ (e : Open ≡ SyncOpen). absurd (cc e)) (record {
      stands = steps.late_leaves D old new c.requires.step tt (steps.either_leaves D old new w.kept.call);
      kept = λ h size s k late. steps.slots_kept D old new w.kept.call.apart w.kept.same h size s k;
      honest = w.kept.call.word.honest;
      called = steps.called_at D.calls old new c.requires.step w.called;
    }) w.kept w.step (steps.unmoved old new c.open_other.result w.left)
