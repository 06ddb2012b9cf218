use Rattle.std.proofs.Common.{◌≡◌}
use Rattle.fp_slots.specs.declared.slots.Step.TheVariants.{SyncClose, SyncOpen}
use Rattle.fp_compaction.proofs.Stepping as steps
use Rattle.fp_compaction.proofs.steps.sync_close.Goals as goal

pub returns : goal.returns
returns g c =
    let w = c.sync_close.ensures in let new = c.sync_close.new.self in
    steps.early_on g.D.Disk c.args.slots.now new c.sync_close.result c.requires.step
    (λ (e : SyncClose ≡ SyncOpen). absurd (cc e)) w.kept w.called w.step
    (steps.unmoved c.args.slots.now new c.sync_close.result w.left)
