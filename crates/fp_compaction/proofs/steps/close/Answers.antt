use Rattle.std.proofs.Common.{◌≡◌}
use Rattle.fp_slots.specs.declared.slots.Step.TheVariants.{Close, SyncOpen}
use Rattle.fp_compaction.proofs.Stepping as steps
use Rattle.fp_compaction.proofs.steps.close.Goals as goal

pub returns : goal.returns
returns g c =
    let w = c.close_other.ensures in let new = c.close_other.new.self in
    steps.early_on g.D.Disk c.args.slots.now new c.close_other.result c.requires.step
    (λ (e : Close ≡ SyncOpen). absurd (cc e)) w.kept w.called w.step
    (steps.unmoved c.args.slots.now new c.close_other.result w.left)
