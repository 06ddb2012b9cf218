use Rattle.std.proofs.Common.{◌≡◌}
use Rattle.fp_slots.specs.declared.slots.Step.TheVariants.{SyncBody, SyncOpen}
use Rattle.fp_compaction.proofs.Stepping as steps
use Rattle.fp_compaction.proofs.steps.seal.Goals as goal

pub returns : goal.returns
returns g c =
    let w = c.sync_parts.ensures in let new = c.sync_parts.new.self in
    steps.early_on g.D.Disk c.args.slots.now new c.sync_parts.result c.requires.step
    (λ (e : SyncBody ≡ SyncOpen). absurd (cc e)) w.kept w.called w.step
    (steps.unmoved c.args.slots.now new c.sync_parts.result w.left)
