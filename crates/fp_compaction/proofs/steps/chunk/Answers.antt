use Rattle.std.proofs.Common.{◌≡◌}
use Rattle.fp_slots.specs.declared.slots.Step.TheVariants.{Part, SyncOpen}
use Rattle.fp_compaction.proofs.Stepping as steps
use Rattle.fp_compaction.proofs.steps.chunk.Goals as goal

pub returns : goal.returns
returns g c =
    let w = c.write_part.ensures in let new = c.write_part.new.self in
    steps.early_on g.D.Disk c.args.slots.now new c.write_part.result c.requires.step
    (λ (e : Part ≡ SyncOpen). absurd (cc e)) w.kept w.called
    (steps.part_then c.write_part.result c.args.slots.now.left new.step _ w.step) (w.less, w.left)
